-- Finished: what is found becomes the answer of the call. Laws: the answer read back.
pub mod Finished
pub mod Laws
