pub mod Numbers
pub mod Hands
pub mod Pending
pub mod Given
pub mod Outlet
