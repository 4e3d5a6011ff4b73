pub mod Refusals
pub mod Commands
pub mod Words
pub mod Seen
pub mod OperandTexts
pub mod Given
