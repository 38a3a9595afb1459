pub mod Grouping
pub mod Numbered
pub mod Named
pub mod Going
pub mod Grouped
