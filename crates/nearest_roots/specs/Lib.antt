-- Root: hypot. Beliefs: what it is. Guess: what the functions that find a root promise to each other.
pub mod Root
pub mod Beliefs
pub mod Guess
