-- Walking: the walk around a contour. Several: contours, one after another.
-- StartRows: the row that each of their edges starts in.
pub mod Walking
pub mod Several
pub mod StartRows
