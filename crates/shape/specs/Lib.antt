-- Limits: the fixed numbers. Checks: what is refused. Outline: a box carried along, its corners and its outline.
-- Calls: the public calls.
pub mod Limits
pub mod Checks
pub mod Outline
pub mod Calls
