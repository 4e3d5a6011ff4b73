pub mod NumberLemmas
pub mod GivenLemmas
pub mod RangeLemmas
mod WordRows
