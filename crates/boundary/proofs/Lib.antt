-- Numbers: no outcome's number is a cause's (specs/Numbers.antt).
pub mod Numbers
