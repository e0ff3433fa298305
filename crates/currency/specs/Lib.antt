pub mod Rates
pub mod Charges
pub mod Margins
