pub mod Audited
pub mod Mailboxes
pub mod Places
