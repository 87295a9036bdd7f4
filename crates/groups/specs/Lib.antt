-- Steps: what the functions that draw a list promise to each other.
pub mod Steps
