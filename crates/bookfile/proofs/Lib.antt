mod Filling
mod Measures
pub mod Tests
pub mod Told
mod Joining
mod Parts
pub mod Wrote
mod InPlace
mod WrittenIn
mod ReadBack
mod AllBytes
pub mod RoundTrip
pub mod VersionOne
