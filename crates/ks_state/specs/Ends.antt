-- Ends of tokens by the kinds of rows.
use Rattle.ks_base.specs.declared.events.Revoke.{Revoke}
use Rattle.ks_base.specs.declared.events.Revoke.TheVariants as revoke
use Rattle.ks_base.specs.Rows.{Id}
use Rattle.ks_state.specs.declared.ended.Ends.{Ends}
use Rattle.ks_state.specs.declared.ended.Ends.TheVariants as ends

-- | what ends with a row of each kind
abbrev pub ended_of : Ends → Id → Revoke
ended_of ends.Project id = revoke.Project id
ended_of ends.User id = revoke.User id
ended_of ends.Trust id = revoke.Trust id
