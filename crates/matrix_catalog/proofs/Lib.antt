pub mod RowFolds
pub mod PairLemmas
pub mod CommutingLemmas
pub mod GridTables
