-- Shared: the sides that two boxes share, and the square box between them. Calls: the public call.
pub mod Shared
pub mod Calls
