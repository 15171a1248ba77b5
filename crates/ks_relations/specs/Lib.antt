-- Which grants a listing looks at, and which projects a user has.
pub mod Asked
pub mod UserProjects
