pub mod Sum
pub mod Choice
pub mod Table
pub mod Room
pub mod Listed
