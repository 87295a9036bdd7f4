-- Touch: the answer of the call. Laws: the answer read back, and the rule before. Finish: what the call's functions
-- promise to each other; no public contract cites it.
pub mod Touch
pub mod Laws
pub mod Finish
