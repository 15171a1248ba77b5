-- Whose trusts a listing asks for.
use Rattle.std.specs.Prelude.{◌≡◌, Bool, true}
use Rattle.ks_base.specs.declared.events.Revoke.TheVariants as revoke
use Rattle.ks_base.specs.declared.trusts.TrustRow.{TrustRow}
use Rattle.ks_base.specs.Rows.{Id}
use Rattle.ks_base.specs.Trusts.{names_trust}

-- | each trust that passes has this user as its trustor or its trustee
abbrev pub IsOfAll : (TrustRow → Bool) → Id → Type 0
IsOfAll passes user = (trust : TrustRow) → passes trust ≡ true → names_trust (revoke.User user) trust ≡ true
