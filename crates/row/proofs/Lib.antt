-- Within: a piece within the row. Clip: the ends of a piece outside the row. Floor: columns (specs/Laws.antt).
pub mod Within
pub mod Clip
pub mod Floor
