pub mod Ages
pub mod Parts
pub mod Laid
pub mod Rows
pub mod Listed
pub mod Refusing
