mod Calling
mod Coming
mod EachPort
mod Fitting
mod Leaving
mod Lending
mod Onward
mod Performing
mod Retreating
pub mod Rooms
pub mod Running
pub mod Stepping
