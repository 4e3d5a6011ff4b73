pub mod AbideLaws
pub mod Members
pub mod Pairs
pub mod Operators
pub mod Commuting
pub mod Shapes
pub mod NotAbiding
