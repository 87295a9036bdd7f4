-- Rooting: from a float's parts to its root. RootBelief: what the definitions are (specs/Beliefs.antt). Controls: closed
-- cases.
pub mod Rooting
pub mod RootBelief
pub mod Controls
