pub mod Ranges
pub mod Scales
pub mod Wide
pub mod Lines
pub mod Laws
