-- Calls: the calls on masks, on lent slices.
pub mod Calls
