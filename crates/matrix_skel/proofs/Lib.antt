pub mod Parts
pub mod PartFolds
