pub mod Faults
pub mod Made
pub mod Rows
