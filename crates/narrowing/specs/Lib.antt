-- Width: f64 to f32. Beliefs: what the definition is, in exact numbers.
pub mod Width
pub mod Beliefs
