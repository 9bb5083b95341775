pub mod Refusing
pub mod Written
pub mod Storing
