pub mod Layout
pub mod Shapes
pub mod Tables
pub mod Picture
