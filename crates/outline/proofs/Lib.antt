-- Scan: loops over lists. Walking: one verb of the walk. Contouring: the walk over all verbs; Ends, Storing: what its two
-- loops keep.
pub mod Scan
pub mod Walking
pub mod Contouring
pub mod Ends
pub mod Storing
pub mod Passing
