-- Fill: an upright rect that is filled under a clip. Calls: the public call.
pub mod Fill
pub mod Calls
