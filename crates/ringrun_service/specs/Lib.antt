pub mod Arguments
pub mod Fault
pub mod Line
pub mod Parsing
pub mod Program
pub mod Replies
pub mod Rest
pub mod Script
