pub mod TokenLemmas
pub mod SourceLemmas
pub mod NumberLemmas
