pub mod Users
pub mod Meetings
