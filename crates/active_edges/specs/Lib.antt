-- Active: the active edges of a row, and their pieces. Floats: the active edges in lent floats, and what the functions
-- over them promise to each other.
pub mod Active
pub mod Floats
