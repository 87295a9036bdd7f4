-- Texts: a text written over a file, piece by piece, and how long a header is.
pub mod Texts
