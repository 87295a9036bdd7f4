-- Number: the number of each cause. Check: what a look at a call's arguments says.
pub mod Number
pub mod Check
