-- Lent: boxes, coverages and bounds as lent floats.
pub mod Lent
