pub mod Doing
pub mod Effect
pub mod Lasting
pub mod Rows
pub mod TakingOut
pub mod ModesAfter
pub mod Numbers
