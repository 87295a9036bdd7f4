-- Overlap: what two boxes both cover. Calls: the public call.
pub mod Overlap
pub mod Calls
