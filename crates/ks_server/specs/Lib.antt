-- Requests on links, each answered before the next. What was asked and answered is a list of exchanges; what the machine was at each of
-- them is read off a journal, the front that somebody sees later, by the receipts.

-- What the public contract means, in the order in which it is read: exchanges of requests and replies; their order; what ties them to
-- desks; the bytes of a session; what a stretch of work is; and what workers do beside each other.
pub mod Exchanges
pub mod Orders
pub mod Ties
pub mod Sessions
pub mod Work
pub mod Workers
pub mod Laws
pub mod steps
