-- Turning: the loops over an outline's points, and its four corners. Closing: the end of the walk. Straight: straight
-- outlines fit as before.
pub mod Turning
pub mod Closing
pub mod Straight
