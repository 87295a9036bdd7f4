-- Cleared: scratch before and after. OneGroup: one group more. AllGroups: a list, group after group.
pub mod Cleared
pub mod OneGroup
pub mod AllGroups
