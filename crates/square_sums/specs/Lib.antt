-- Squares: sums of squares in whole numbers, and their roots as f32s.
pub mod Squares
