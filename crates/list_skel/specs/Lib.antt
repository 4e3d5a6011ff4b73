pub mod Blocks
pub mod Skeletons
pub mod Given
pub mod Props
