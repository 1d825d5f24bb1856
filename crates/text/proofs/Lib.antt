-- The lemmas that the answers cite.
pub mod Laying
pub mod Spelling
pub mod Writing
