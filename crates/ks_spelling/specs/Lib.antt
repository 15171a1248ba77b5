-- Values as bytes. A spelling is the bytes of a value, and reading takes it off the front of bytes. `Readings.antt` and the statements
-- beside the definitions are the proofs that reading and spelling undo each other.
pub mod Codes
pub mod Readings
pub mod Leaves
pub mod Wholes
pub mod Variants
pub mod Values
pub mod Rows
