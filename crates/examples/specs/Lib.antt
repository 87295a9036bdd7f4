-- Starred: document 01's twelve starred examples, and what it is that they are shown. Placed: laying on by corners,
-- document 02, change 8. Inked: columns with ink, change 9. Touches: what document 02 makes of a touch past a box, change
-- 2, of one that several boxes hold, change 3, and of long lists, change 7. Insides: a list and a safe area, change 10.
-- Curves: outlines with curves, change 5.
pub mod Starred
pub mod Placed
pub mod Inked
pub mod Touches
pub mod Insides
pub mod Curves
