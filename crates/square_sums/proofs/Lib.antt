-- Sums: the exact sum of two squares, and its root by the digits of a part of it.
pub mod Sums
