pub mod Numbers
pub mod Records
pub mod Order
pub mod Years
