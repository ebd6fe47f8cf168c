pub mod Lists
pub mod Script
pub mod Check
pub mod Keys
pub mod Examples
