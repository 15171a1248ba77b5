-- Effective roles over the tables. `ks_tree`, `ks_people`, `ks_roles` and `ks_assign` have no definitions of their own: what their tables
-- hold and refuse is defined in `ks_base`.
pub mod State
pub mod Actors
pub mod Reach
pub mod Granted
pub mod Tops
pub mod Targets
