-- Alongside: a box placed in another's frame. Calls: the public call.
pub mod Alongside
pub mod Calls
