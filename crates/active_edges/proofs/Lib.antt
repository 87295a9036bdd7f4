-- Joining: the list of a row, and its edges behind the active ones. RowEdges: their pieces.
pub mod Joining
pub mod RowEdges
