pub mod HandsLemmas
pub mod GivenLemmas
