-- What a token is there for, and what is known of one that is valid.
use Rattle.std.specs.Prelude.{List, IsSome}
use Rattle.ks_base.specs.declared.users.UserRow.{UserRow}
use Rattle.ks_base.specs.Rows.{user_of}
use Rattle.ks_machine.specs.declared.cause.Cause.{Cause}
use Rattle.ks_machine.specs.declared.cause.Cause.TheVariants as cause
use Rattle.ks_machine.specs.declared.why.Why.{Why}
use Rattle.ks_payload.specs.declared.payload.Payload.{Payload}
use Rattle.ks_payload.specs.Payloads.{IsInRange}
use Rattle.ks_checks.specs.declared.tokens.Use.{Use}
use Rattle.ks_checks.specs.declared.tokens.Use.TheVariants as used

-- what a token that is not valid is refused as: the caller's, the one that the call is about, or the one that a login shows
abbrev pub blamed : Use → Why → Cause
blamed used.Caller why = cause.CallerToken why
blamed used.Subject why = cause.SubjectToken why
blamed used.Login why = cause.Credentials

-- a payload that has a spelling, and whose user stands
abbrev pub IsUsable : List UserRow → Payload → Type 0
IsUsable users payload = IsInRange payload × IsSome (user_of payload.user users)
