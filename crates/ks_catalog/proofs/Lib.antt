pub mod OfferLemmas
pub mod UrlLemmas
