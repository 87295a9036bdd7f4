-- Decided: an answer that is done where it can be, and refused for each cause, is so only then. Causes: a drawing.
-- LayCauses: a laying-on. PlacedCauses: one by corners. Numbers: the documents' number of each call. Laws: a list's
-- faults, and the cells after a drawing. Prints: by the ink that is left the mask is printed. Before: answers as they were
-- before there was ink. Scratch: a list without a fault, and the scratch that it needs.
pub mod Decided
pub mod Causes
pub mod LayCauses
pub mod PlacedCauses
pub mod Numbers
pub mod Laws
pub mod Prints
pub mod Before
pub mod Scratch
