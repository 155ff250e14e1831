pub mod Walk
pub mod Alike
pub mod Reading
pub mod Small
pub mod Fault
pub mod Longer
pub mod Faults
