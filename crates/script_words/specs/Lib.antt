pub mod Lines
pub mod Runs
pub mod Read
pub mod Reading
pub mod Functions
pub mod Views
