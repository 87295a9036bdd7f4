-- Checked: an f32 whose neighbours' midpoints have the root between them is the nearest. Exact64: these midpoints and
-- their squares as f64s. Guessing: a guess that was held by them is the root, or hypot. RootBelief, Overflow: what the
-- definitions are (specs/Beliefs.antt). Controls: closed cases.
pub mod Checked
pub mod Exact64
pub mod Guessing
pub mod Overflow
pub mod RootBelief
pub mod Controls
