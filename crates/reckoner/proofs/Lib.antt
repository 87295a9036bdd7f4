-- LayStep: laying on in one cell. Small: a byte of a drawing is a byte. Numbers: the answers in document 01's numbers.
-- Scratch: it never matters. Cells: what holds of a cell, a mask and both masks, through a drawing and a laying-on.
-- LastGiven: the record held is the one last given. Chain: the theorem, `every_list`. Corners: cards are meant, and
-- lists without corners are as before.
pub mod LayStep
pub mod Small
pub mod Numbers
pub mod Scratch
pub mod Cells
pub mod LastGiven
pub mod Chain
pub mod Corners
