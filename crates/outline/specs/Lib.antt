-- Outline: what is refused. Contour: the walk over the verbs. Kept: what the code keeps of it, for its parts and the
-- fitter's.
pub mod Outline
pub mod Contour
pub mod Kept
pub mod Checked
