pub mod Shape
pub mod Tables
pub mod Rules
pub mod Calls
pub mod Ident
pub mod Protection
