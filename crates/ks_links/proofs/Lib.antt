mod ChangeLemmas
mod PutLemmas
mod RunSetLemmas
mod SideLemmas
mod SideRunLemmas
mod SlotLemmas
