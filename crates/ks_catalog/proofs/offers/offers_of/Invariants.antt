use Rattle.std.proofs.Common.{◌≡◌, take}
use Rattle.ks_catalog.specs.Offers.{offers_of}
use Rattle.ks_catalog.proofs.offers.offers_of.Given as goal

abbrev pub invariant-loop-row : goal.invariant-loop-row
invariant-loop-row l = l.made.items ≡ offers_of (take l.row-index l.endpoints) l.rows
