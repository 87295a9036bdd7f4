-- Whole: floor, ceiling, casts. Beliefs: what the definitions are, in exact numbers.
pub mod Whole
pub mod Beliefs
