-- The order of grants by target.
pub mod SideLaws
pub mod Sides
