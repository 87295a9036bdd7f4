-- Words: the reading of a word list. Writer: its inverse, and what pins the reading down.
pub mod Words
pub mod Writer
