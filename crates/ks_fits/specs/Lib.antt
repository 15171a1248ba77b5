-- Whether a change fits what tables tell.
pub mod Told
