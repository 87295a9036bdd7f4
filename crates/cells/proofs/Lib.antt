-- Sizes: a size that is allowed, and one that is too large. Corners: a corner that is allowed, and one that is out of
-- range. Rows: a mask as rows; ChangedTo is the law of a loop that changes them one by one. Places: a cell's byte in rows
-- that follow one another.
pub mod Sizes
pub mod Corners
pub mod Rows
pub mod Places
