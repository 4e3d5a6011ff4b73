pub mod ChildLemmas
pub mod Elements
pub mod Shapes
