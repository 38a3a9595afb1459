pub mod Labelled
pub mod NamesInGroups
pub mod Trees
pub mod Index
pub mod Roots
pub mod Valid
