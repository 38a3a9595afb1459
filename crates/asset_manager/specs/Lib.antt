pub mod Listed
pub mod Asker
pub mod Linked
pub mod Booked
pub mod Serves
pub mod Asks
