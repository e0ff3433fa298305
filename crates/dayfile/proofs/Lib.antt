pub mod Apart
pub mod Marks
pub mod Amounts
pub mod Looking
mod Rooms
mod Bodies
pub mod Good
pub mod Judging
pub mod Lengths
pub mod Places
pub mod Growing
pub mod Answers
pub mod Numbers
pub mod RoundTrip
