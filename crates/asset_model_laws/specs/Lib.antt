pub mod Amid
pub mod Owners
pub mod Ended
pub mod Contingent
pub mod Sagas
pub mod Nested
pub mod Handing
pub mod Clients
