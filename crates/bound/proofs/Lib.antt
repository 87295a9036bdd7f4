-- From the ground up. Entries: what is added to a row's cells, and tallies over it. Model: span as a list of entries.
-- Numbers: floats that are known. Floor: a number less its column. Adds: what a piece adds, and the constants. OneCell,
-- Products, Across, Inside, Span: what span adds, and how far it is off. CellSum, WindingSum, RowSum: the sums over a
-- cell, along the row, and over edges. Share, Byte: the fold and the byte. Edges: a group's edges by their words, and
-- the active ones. Active: these are the ones that cross the row. Place: where an edge is at a height. Piece: the edge
-- lemma. GroupRow, Drawing: a group's bytes in a row, and all groups'. Close: the theorem. Example: one drawing, worked
-- out.
pub mod Entries
pub mod Model
pub mod Numbers
pub mod Floor
pub mod Adds
pub mod OneCell
pub mod Products
pub mod Across
pub mod Inside
pub mod Span
pub mod CellSum
pub mod WindingSum
pub mod RowSum
pub mod Share
pub mod Byte
pub mod Edges
pub mod Active
pub mod Place
pub mod Piece
pub mod GroupRow
pub mod Drawing
pub mod Close
pub mod Example
