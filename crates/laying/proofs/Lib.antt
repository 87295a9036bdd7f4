-- Offsets: where rows first meet. Cells: a line of cells under others. Laid: a laid mask as it is defined, cell by
-- cell, also for the claim about lists of calls. Placed: the offset between two corners. Rows: the code's rows are those
-- of the definition. Starts: the starts of rows, kept from row to row.
pub mod Offsets
pub mod Cells
pub mod Laid
pub mod Placed
pub mod Rows
pub mod Starts
