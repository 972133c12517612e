pub mod Bytes
pub mod Events
pub mod Jobs
pub mod Log
pub mod Readings
pub mod Signal
pub mod States
