-- Around: the box around an outline. Radii: a corner's radii. Mix: which corners are round.
pub mod Around
pub mod Radii
pub mod Mix
