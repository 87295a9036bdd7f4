-- Reader: the word reader, and what is read of one word.
pub mod Reader
