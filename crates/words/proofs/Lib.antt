-- Steps: what the answers say, and the loops turn by turn. Places: a list without a fault, by place.
pub mod Steps
pub mod Places
