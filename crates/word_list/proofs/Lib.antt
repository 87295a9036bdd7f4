-- Ends: where reading ends. Few: how many points are read. RoundTrip: reading is the inverse of writing.
pub mod Ends
pub mod Few
pub mod RoundTrip
