-- Causes: why a call is refused, in the documents' order. Laws: each call is refused exactly for its first cause.
-- FirstFaulty: what a box with a half extent below 0 meets. Apart: two trims that have one.
pub mod Causes
pub mod Laws
pub mod FirstFaulty
pub mod Apart
