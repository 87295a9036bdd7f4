-- Scissor: a clip and a scissor. Calls: the public calls.
pub mod Scissor
pub mod Calls
