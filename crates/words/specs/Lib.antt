-- Scan: how the code hands on what is read (word_list/specs/Words.antt).
pub mod Scan
