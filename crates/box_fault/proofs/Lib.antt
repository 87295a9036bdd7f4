-- Lists: a list's check by its first element at fault. Boxes: the checks of boxes by their causes. Outlines: an outline's
-- check by its causes. Laws: each call is refused exactly for its first cause. FirstFaulty: what a box with a half extent
-- below 0 meets. Apart: two trims that have one.
pub mod Lists
pub mod Boxes
pub mod Outlines
pub mod Laws
pub mod FirstFaulty
pub mod Apart
