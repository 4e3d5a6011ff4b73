pub mod Meanings
pub mod Operators
pub mod TreeOperators
pub mod DownOperators
pub mod RoseOperators
pub mod RoseDownOperators
