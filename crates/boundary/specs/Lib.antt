-- Outcomes: the numbers of ordinary outcomes. Answers: what each kind of answer hands over, its number and its floats.
-- Numbers: no outcome's number is a cause's.
pub mod Outcomes
pub mod Answers
pub mod Numbers
