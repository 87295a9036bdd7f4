-- All: a loop that asks a test of each number below n.
pub mod All
