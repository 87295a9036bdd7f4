-- Roots: whole roots, and the nearest value to a root. RootLoop, RootExtend: a root's first digits are found one by
-- one, the others by a division. Halves: a root's half, rounded. RootBelief, Nearer: what the
-- definitions are (specs/Beliefs.antt).
pub mod Roots
pub mod RootLoop
pub mod RootExtend
pub mod Halves
pub mod Nearer
pub mod RootBelief
