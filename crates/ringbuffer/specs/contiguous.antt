pub mod Contiguous
