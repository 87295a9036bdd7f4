-- Row: what a piece of an edge adds to a row. Laws: why Row may be believed.
pub mod Row
pub mod Laws
