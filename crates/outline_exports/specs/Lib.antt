-- Calls: what each call on an outline and lent floats answers.
pub mod Calls
