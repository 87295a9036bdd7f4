-- Text: the bytes of a mask that is written as a PGM file.
pub mod Text
