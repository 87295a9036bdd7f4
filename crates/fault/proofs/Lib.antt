-- Numbers: each cause has a number of its own. Passing: what a check that passes says of its parts. Decided: why an answer
-- unless a check refuses is a refusal.
pub mod Numbers
pub mod Passing
pub mod Decided
