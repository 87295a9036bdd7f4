-- Whole: whole numbers. Fraction: fractions of them. Laws: what is proved of both.
pub mod Whole
pub mod Fraction
pub mod Laws
