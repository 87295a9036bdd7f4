-- Root: square roots, hypot. Beliefs: what they are. Digits: what the functions that take a float's root by its digits
-- promise to each other.
pub mod Root
pub mod Beliefs
pub mod Digits
