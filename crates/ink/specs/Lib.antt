-- Ink: which columns of a row have ink, and the numbers after a scan. Lent: what is lent for a mask, its ink beside it.
-- Print: a print loop that sends only the stretches. Laws: what holds of them. Steps: what the functions promise to each
-- other. Grown: ink kept while bytes are added.
pub mod Ink
pub mod Lent
pub mod Print
pub mod Laws
pub mod Steps
pub mod Grown
