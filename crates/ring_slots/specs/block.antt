pub mod Block
pub mod Lends
pub mod Memory
pub mod Row
