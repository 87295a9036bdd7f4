-- Root: the value of a format that is nearest to a root. Beliefs: what it is. Digits: what the functions that find a
-- root's digits promise.
pub mod Root
pub mod Beliefs
pub mod Digits
