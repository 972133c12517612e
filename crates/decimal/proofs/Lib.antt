pub mod BitParts
pub mod Bytes
pub mod Cases
pub mod Digits
pub mod EightDigitsRead
pub mod EightDigitsWritten
pub mod LeadingZeros
pub mod SignedNumbers
