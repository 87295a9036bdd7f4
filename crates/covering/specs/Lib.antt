-- Limits: the fixed numbers. Coverage: a box as a draw takes it. Touches: the touch of one box. Laws: the touch read
-- from the documents' words. Calls: the public calls.
pub mod Limits
pub mod Coverage
pub mod Touches
pub mod Laws
pub mod Calls
