pub mod Cells
pub mod Regions
pub mod Opening
pub mod Sounds
pub mod FlatLayout
pub mod Slots
pub mod PagedLayout
