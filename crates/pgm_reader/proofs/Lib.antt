-- Runs: bytes of a kind at the front, and the number that digits spell. Fields: whitespace and a number, both ways. Laws: a
-- header is read exactly when there is one. Places: what is read, by its place in the file. Steps: the reading, step by
-- step.
pub mod Runs
pub mod Fields
pub mod Laws
pub mod Places
pub mod Steps
