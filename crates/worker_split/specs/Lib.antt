pub mod Crew
pub mod Dealing
pub mod Items
pub mod Passes
pub mod Rule
