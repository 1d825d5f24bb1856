pub mod Journal
pub mod Laws
pub mod Bench
pub mod Entries
