-- Limits: the fixed numbers. Distance: the distance from a box's edge, and what lies inside. Calls: the public calls.
pub mod Limits
pub mod Distance
pub mod Calls
