mod BlockCalls
mod CellsInMemory
mod CoreRows
mod FullCell
mod Gap
pub mod Filled
pub mod MovedDown
pub mod OneSlot
mod OwnerParts
pub mod Passed
mod Pieces
mod SendSync
mod SharedSlots
mod Shown
mod ShownMoved
mod SlotsInMemory
mod Stretch
mod Words
