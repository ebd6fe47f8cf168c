pub mod Failures
pub mod Requests
