-- From a reply to its response.

-- What the public contracts mean, in the order in which it is read: values of JSON, what is told of each thing,
-- the bodies of responses, and the responses that tell replies. Of `steps` only private clauses speak.
pub mod Values
pub mod Versions
pub mod Named
pub mod Tokens
pub mod Catalog
pub mod Credentials
pub mod Rows
pub mod Grants
pub mod Events
pub mod Listings
pub mod Names
pub mod Errors
pub mod Bodies
pub mod Answers
pub mod Examples
pub mod steps
