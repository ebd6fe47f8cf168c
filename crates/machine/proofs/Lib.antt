pub mod Dialogues
pub mod Letters
pub mod Entries
pub mod Ports
pub mod Held
pub mod Telling
pub mod Exits
pub mod Open
pub mod Typed
pub mod Handing
pub mod Bindings
pub mod Steps
pub mod Moves
pub mod Going
pub mod Tables
pub mod Beginning
pub mod Calling
pub mod Kept
mod Answered
mod Worked
mod Evening
