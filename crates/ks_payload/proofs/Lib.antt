pub mod HexLemmas
pub mod FieldLemmas
pub mod PayloadLemmas
pub mod CodeLemmas
