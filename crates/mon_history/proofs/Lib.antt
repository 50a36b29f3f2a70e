pub mod Boards
pub mod Growing
pub mod Listening
pub mod Replays
pub mod Legal
