-- Ops: operators and constants. Simple: abs, min, max, signum. Arctan: the arctangent of y over x. Parts: inner helpers.
pub mod Ops
pub mod Simple
pub mod Arctan
pub mod Parts
