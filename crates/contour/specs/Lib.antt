-- Contours: the edges of contours.
pub mod Contours
