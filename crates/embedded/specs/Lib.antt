pub mod Records
pub mod Asked
pub mod Carrying
pub mod Closing
pub mod Moving
pub mod Writing
pub mod Margins
