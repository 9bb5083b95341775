pub mod Contents
pub mod Ordered
pub mod Meant
pub mod Flats
pub mod Slots
pub mod Pageds
