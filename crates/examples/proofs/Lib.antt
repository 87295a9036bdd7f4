-- Shown: the theorem `starred_shown`. Placed: `laid_by_corners`. Inked: `ink_shown`. Touched: `edges_take_a_finger`,
-- `first_of_several`. Sheet: `sheet_of_frames`. Inside: `safe_area`, `full_list`. Curved: `curves_fit`.
pub mod Shown
pub mod Placed
pub mod Inked
pub mod Touched
pub mod Sheet
pub mod Inside
pub mod Curved
