-- Area: what is added to the cells of a row. Marks: which of a row's cells may hold area.
pub mod Area
pub mod Marks
