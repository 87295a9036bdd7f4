-- Counted: which edges count for a cell. Close: how close a drawn byte is to the exact picture. Example: one cell,
-- worked out.
pub mod Counted
pub mod Close
pub mod Example
