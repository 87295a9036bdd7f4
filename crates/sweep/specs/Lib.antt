-- Bytes: the bytes that a row comes to. Sweeping: what the functions of a row's sweep promise to each other.
-- Laws: why cells that hold 0.0 may be passed over.
pub mod Bytes
pub mod Sweeping
pub mod Laws
