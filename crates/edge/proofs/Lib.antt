-- Floats: edges in lent floats. Pushing: edges stored one behind another. StartRows: an edge starts in a row of the
-- mask. Linking: the edge table, one edge more at a time.
pub mod Floats
pub mod Pushing
pub mod StartRows
pub mod Linking
