pub mod LastEight
pub mod Numerals
