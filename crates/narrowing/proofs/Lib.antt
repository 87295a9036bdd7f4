-- Narrowing: which f32 is nearest, by an f64's digits and exponent. Controls: closed cases.
--
-- What the definition of specs/ means, in exact numbers, is stated in specs/Beliefs.antt:
--
--   `narrow_beliefs` (NarrowBelief): one rounding to binary32, of which crates/rounding says how near it is
pub mod Narrowing
pub mod NarrowBelief
pub mod Controls
