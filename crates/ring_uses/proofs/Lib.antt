pub mod Sent
pub mod Times
