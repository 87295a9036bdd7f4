-- Unlent: a file that is read where no mask is lent, and no ink. Laws: when a file is read on lent slices, and why not.
pub mod Unlent
pub mod Laws
