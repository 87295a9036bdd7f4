-- MeanOf: the mean between two crossings (D), and G, the share of a cell. Pieces: H by pieces. Convex: H lies above
-- its tangents. Mean: laws of D. Cells: G by where the edge is. Part: an edge's part in a cell is its height times G.
-- Crosses: what `crosses` means. Fold: the shares change by no more than the winding. Belief: the beliefs of
-- specs/Beliefs.antt.
pub mod MeanOf
pub mod Pieces
pub mod Convex
pub mod Mean
pub mod Cells
pub mod Part
pub mod Crosses
pub mod Fold
pub mod Belief
