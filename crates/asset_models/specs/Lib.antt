pub mod Calls
pub mod Clients
pub mod Courses
pub mod Follows
