pub mod Commands
pub mod Statuses
pub mod Sources
pub mod Answers
pub mod Replies
pub mod Hosts
pub mod Laws
