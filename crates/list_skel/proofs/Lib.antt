pub mod CutLemmas
pub mod FoldParts
