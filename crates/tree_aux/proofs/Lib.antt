pub mod DownMeanings
pub mod TreeMeanings
pub mod RoseMeanings
