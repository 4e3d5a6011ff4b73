pub mod Uses
pub mod Steps
pub mod PlanText
pub mod Arguments
pub mod Demands
pub mod Meaning
pub mod Chains
