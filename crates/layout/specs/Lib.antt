pub mod Layout
pub mod Kind
