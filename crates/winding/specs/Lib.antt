-- Winding: the exact winding and share of a cell. Drawn: the share and the allowed difference of a drawn cell.
-- Beliefs: why these may be believed.
pub mod Winding
pub mod Drawn
pub mod Beliefs
