-- Reader: what the word reader finds, and what a word says by itself.
pub mod Reader
