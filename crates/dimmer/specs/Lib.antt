pub mod Lamp
pub mod Dimmer
