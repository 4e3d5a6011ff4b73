pub mod Trees
pub mod Roses
pub mod Places
pub mod Faults
pub mod Columns
pub mod Codes
