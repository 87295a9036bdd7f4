-- Laying: one mask laid on another. Placed: by where their corners lie on the sheet. Lines: what the functions that do it
-- promise to each other. Starts: the starts of rows that they keep.
pub mod Laying
pub mod Placed
pub mod Lines
pub mod Starts
