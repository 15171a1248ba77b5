-- The names of the lines of a token's validity.
use Rattle.std.specs.Prelude.{ℕ, List, codes}
use Rattle.ks_machine.specs.declared.why.Why.{Why}
use Rattle.ks_machine.specs.declared.why.Why.TheVariants as why

-- each line by its name
abbrev pub name_of : Why → List ℕ
name_of why.Text = codes "text"
name_of why.Key = codes "key"
name_of why.Payload = codes "payload"
name_of why.Future = codes "future"
name_of why.Expired = codes "expired"
name_of why.Span = codes "span"
name_of why.Revoked = codes "revoked"
name_of why.User = codes "user"
name_of why.Scope = codes "scope"
name_of why.Trust = codes "trust"
name_of why.Credential = codes "credential"
name_of why.Roles = codes "roles"
