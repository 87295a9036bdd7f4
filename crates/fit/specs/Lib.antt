-- Fit: the parallelogram, and the box of an outline. Calls: the public calls. Straight: the fitter before curves. Kept:
-- what the code keeps of it, for its parts.
pub mod Fit
pub mod Calls
pub mod Straight
pub mod Kept
