pub mod Refusing
pub mod Laying
pub mod Changing
pub mod Copies
