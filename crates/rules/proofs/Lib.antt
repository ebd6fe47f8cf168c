pub mod Lists
pub mod Tables
pub mod Books
pub mod Ranges
pub mod Reading
pub mod Derived
pub mod Branches
pub mod Blocks
pub mod Fuel
pub mod Decides
pub mod Scripts
mod Worked
