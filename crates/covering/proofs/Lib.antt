-- Laws: specs/Laws.antt.
pub mod Laws
