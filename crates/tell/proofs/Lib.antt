pub mod Laws
pub mod Merge
