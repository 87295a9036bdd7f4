-- Drawing: the bytes of a drawing, row by row. Scratch: what is lent for it.
-- Resolving: what the functions that draw a group promise to each other.
pub mod Drawing
pub mod Scratch
pub mod Resolving
