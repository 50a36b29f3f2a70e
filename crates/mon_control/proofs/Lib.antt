pub mod Taken
pub mod Kept
pub mod Changing
pub mod Policies
pub mod Accepting
pub mod Committing
pub mod Beginning
pub mod Noting
