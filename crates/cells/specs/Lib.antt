-- Cells: a mask's size and its cells. Corner: its corner on the sheet. Rows: a mask as rows, one after another. Over:
-- lent bytes with others written over them.
pub mod Cells
pub mod Corner
pub mod Rows
pub mod Over
