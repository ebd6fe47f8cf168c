pub mod Hearing
mod Lettering
mod Listing
mod Projecting
mod Renaming
mod Turning
pub mod Numbered
pub mod Asking
pub mod Composed
mod Stacking
pub mod Rows
pub mod Replies
