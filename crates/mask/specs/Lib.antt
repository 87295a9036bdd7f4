-- Calls: the calls on masks, outright. Laws: what holds of them as a whole. Before: what they answered before there was
-- ink. Steps: what the functions promise to each other.
pub mod Calls
pub mod Laws
pub mod Before
pub mod Steps
