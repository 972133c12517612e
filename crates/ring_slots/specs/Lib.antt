pub mod Slots
pub mod array
pub mod block
pub mod cells
pub mod copies
pub mod full
