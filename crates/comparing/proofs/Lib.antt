pub mod Fitness
pub mod Lines
pub mod Rows
pub mod Runs
