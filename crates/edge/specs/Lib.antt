-- Edges: the edge between two points, and what is read of one edge. Floats: edges in lent floats. Table: the edge
-- table, and what its functions promise to each other.
pub mod Edges
pub mod Floats
pub mod Table
