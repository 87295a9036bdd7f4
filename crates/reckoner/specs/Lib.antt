-- Reckoner: what document 01's reckoner holds, and its steps. LastGiven: the record given with a mask's last done drawing.
-- Claim: the engine's run of a list, and the claim about it. Corners: lists by corners that are meant, and lists without.
pub mod Reckoner
pub mod LastGiven
pub mod Claim
pub mod Corners
