-- Calls: what each call on lent floats answers.
pub mod Calls
