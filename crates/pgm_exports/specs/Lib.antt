-- Calls: the calls on PGM files, on lent slices. Laws: when a file is read so, and why not.
pub mod Calls
pub mod Laws
