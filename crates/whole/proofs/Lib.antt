-- Whole: whole parts. Methods: floor and ceiling. Cast, Part: casts. Controls: closed cases.
--
-- What the definitions of specs/ mean, in exact numbers, is stated in specs/Beliefs.antt:
--
--   `integral_beliefs` (IntegralBelief): floor and ceiling are whole numbers at x or less than 1 away, below and above
--   `cast_beliefs` (CastBelief): a whole number up to 2 ^ 24 as a float is that number; a float in range is cut to the
--       whole number at it or less than 1 below
pub mod Whole
pub mod Methods
pub mod Cast
pub mod Part
pub mod IntegralBelief
pub mod CastBelief
pub mod Controls
