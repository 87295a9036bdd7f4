-- Calls: what the calls answer and leave. Laws: what is written and read, why a call is refused, and the round trip.
-- Before: what a reading answered before there was ink. Files: files whose answers are worked out by hand.
pub mod Calls
pub mod Laws
pub mod Before
pub mod Files
