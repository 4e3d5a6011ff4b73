pub mod HeadLemmas
pub mod StageLemmas
pub mod BlockLemmas
pub mod ScanLemmas
pub mod NumberLemmas
pub mod ColumnLemmas
