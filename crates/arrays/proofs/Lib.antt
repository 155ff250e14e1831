pub mod Arrays
pub mod Laws
