-- What a project sees of the service catalog.

-- What the public contracts mean. Of `steps` only private clauses speak.
pub mod Urls
pub mod ProjectCatalog
pub mod Offers
pub mod steps
