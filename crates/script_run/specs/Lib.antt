pub mod Fits
pub mod Pipes
pub mod Runs
pub mod Needs
pub mod Inputs
pub mod Fit
pub mod Laws
