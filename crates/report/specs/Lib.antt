pub mod Reports
pub mod Holdings
pub mod Inner
