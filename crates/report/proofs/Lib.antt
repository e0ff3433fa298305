pub mod Listed
pub mod NeedLines
mod Widths
pub mod HoldingLines
pub mod Percents
pub mod Example
