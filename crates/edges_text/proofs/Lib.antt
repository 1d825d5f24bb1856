-- The lemmas that the answers cite.
pub mod Delivering
pub mod Lines
pub mod Spelling
pub mod Taking
