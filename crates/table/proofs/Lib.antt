pub mod Gathered
pub mod InPlace
pub mod RowsPut
pub mod Turning
pub mod EveningSums
pub mod Seen
