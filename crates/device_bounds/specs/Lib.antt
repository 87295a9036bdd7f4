-- Reach: the device bounds of a coverage. Holds: what lies inside the clip as it was given. Each is its public call:
-- neither refuses anything.
pub mod Reach
pub mod Holds
