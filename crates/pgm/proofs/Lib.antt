-- Writing: when a mask is written, and why not. Reading: when a file is read, and why not. Decimal: the digits of a number
-- spell it. RoundTrip: what is written is read. Prints: the ink that a reading leaves prints the mask. Before: answers as
-- they were before there was ink. Files: files whose answers are worked out by hand.
pub mod Writing
pub mod Reading
pub mod Decimal
pub mod RoundTrip
pub mod Prints
pub mod Before
pub mod Files
