pub mod Tests
pub mod Lists
pub mod Firsts
pub mod Answers
pub mod Ranges
pub mod Balance
pub mod Rows
pub mod Same
pub mod Counting
mod Held
pub mod Letters
