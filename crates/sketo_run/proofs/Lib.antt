pub mod FrontLemmas
pub mod OutletLemmas
pub mod AnswerLemmas
pub mod EndLemmas
pub mod ReadLemmas
