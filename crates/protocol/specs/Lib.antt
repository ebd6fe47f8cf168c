pub mod Lists
pub mod Tables
pub mod Slots
pub mod Paths
