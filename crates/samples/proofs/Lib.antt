-- Folds: folds over a list of points. Outlining: an outline's points, a segment at a time.
pub mod Folds
pub mod Outlining
