pub mod Laws
pub mod Sums
pub mod Link
pub mod Ranges
