-- What the proofs of several functions cite. Active: the edges active in a row. OneRow: a row drawn. AllRows: the rows
-- of a group, one after another. Prepared: a group's edges put into the table. Groups: a drawing, group by group, for
-- crate mask. Places: a drawing's length and bytes. Inking: the ink that is kept.
pub mod Active
pub mod OneRow
pub mod AllRows
pub mod Prepared
pub mod Groups
pub mod Places
pub mod Inking
