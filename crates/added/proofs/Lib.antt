pub mod Rise
pub mod Asked
