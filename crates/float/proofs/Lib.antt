-- Tests, Simple: comparisons; abs, max, min, signum. Pattern, Fields: bit patterns. Shift: digits cut off, for the
-- crates above. Controls: closed cases.
pub mod Tests
pub mod Simple
pub mod Methods
pub mod Pattern
pub mod Shift
pub mod Fields
pub mod Controls
