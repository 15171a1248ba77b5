-- Plans, and checks that commands share.
pub mod Checked
pub mod Plans
pub mod Tokens
