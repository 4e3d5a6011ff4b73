pub mod Parts
pub mod Bridges
pub mod Places
pub mod Paths
pub mod Next
pub mod Numbered
