mod Lookups
pub mod Joint
mod Entering
mod Closing
pub mod Passed
mod Passing
pub mod Home
mod Giving
mod Held
mod Homing
mod Drafting
mod Closed
mod Readers
mod Books
