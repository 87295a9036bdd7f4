-- Bits: a word's bits. Marks: marks that are set. Mapped: a list mapped from the front, in a loop. Adding: cells that
-- are added to.
pub mod Bits
pub mod Marks
pub mod Mapped
pub mod Adding
