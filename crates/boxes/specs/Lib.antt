-- Checks: what is refused of a list. First: the first place whose box passes a test. Laws: when a list is too long; what
-- it is that something holds of all of it; that place read back. Lent: boxes as lent floats.
pub mod Checks
pub mod First
pub mod Laws
pub mod Lent
