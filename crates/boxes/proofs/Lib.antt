-- First: the first place is the lowest. Few: how many boxes there are. Walking: the walk over lists. Lent: the same over
-- boxes in lent floats.
pub mod First
pub mod Few
pub mod Walking
pub mod Lent
