pub mod Ascending
pub mod Shifts
pub mod Spared
pub mod Accounting
pub mod Making
