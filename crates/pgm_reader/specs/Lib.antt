-- Reading: a header read from its first byte on. Steps: what functions promise to each other. Laws: what a header is, said
-- without the reading.
pub mod Reading
pub mod Steps
pub mod Laws
