-- OnBox: how far points lie off the box. Turning: once around it. Rounded: the answer.
pub mod OnBox
pub mod Turning
pub mod Rounded
