-- Inside: the answer of the call. Laws: the answer read back. Finish: what the call's functions promise to each other;
-- no public contract cites it.
pub mod Inside
pub mod Laws
pub mod Finish
