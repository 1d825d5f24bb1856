pub mod Shows
pub mod Answers
pub mod Cells
pub mod Sameness
pub mod Histories
