-- Samples: an outline's points and its anchors. Folds: folds over a list of points.
pub mod Samples
pub mod Folds
