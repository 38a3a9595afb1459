pub mod Exit
pub mod Program
pub mod Converse
pub mod Doing
