-- What a token must be, by the keys, its payload and the time alone: the first lines of its validity, in their order.
-- Source: Keystone's administration guide, Fernet keys; own.
use Rattle.std.specs.Prelude.{ℕ, ◌+◌, Bool, true, false, nat_lt, nat_le, List, [], ◌∷◌, is_some, Result, Ok, Err}
use Rattle.ks_base.specs.declared.key.Key.{Key}
use Rattle.ks_base.specs.Revocation.{window}
use Rattle.ks_base.specs.Results.{found, need, ◌>>=◌}
use Rattle.ks_fernet.specs.Opening.{open_of}
use Rattle.ks_fernet.specs.Token.{envelope_of}
use Rattle.ks_fernet.specs.declared.opening.OpenAnswer.{OpenAnswer}
use Rattle.ks_fernet.specs.declared.opening.OpenAnswer.TheVariants.{NotText, No, Yes}
use Rattle.ks_payload.specs.Readings.{payload_of}
use Rattle.ks_machine.specs.declared.lines.ReadToken.{ReadToken}
use Rattle.ks_machine.specs.declared.why.Why.{Why}
use Rattle.ks_machine.specs.declared.why.Why.TheVariants as why

-- what a list of no key makes of a text
abbrev pub unopened : Bool → OpenAnswer
unopened true = No
unopened false = NotText

-- an answer, or where the key does not open the text, that of the keys behind it
abbrev pub or_else : OpenAnswer → OpenAnswer → OpenAnswer
or_else (Yes time plain) later = Yes time plain
or_else No later = later
or_else NotText later = NotText

-- the keys are tried in the order of their list, and the first that opens the text decides
unfoldable pub first_opened : List Key → List ℕ → OpenAnswer
first_opened [] text = unopened (is_some (envelope_of text))
first_opened (key ∷ keys) text = or_else (open_of key text) (first_opened keys text)

-- | the moment at which a token ends; who may ask for expired ones finds it for two days longer
abbrev pub end_of : Bool → ℕ → ℕ
end_of false expires = expires
end_of true expires = expires + window

-- the lines `Payload`, `Future`, `Expired` and `Span`, behind the opening, where `life` is how long a token may live, `moment` is now, and
-- `late` says whether the request allows an expired token
unfoldable pub payload_lines : ℕ → ℕ → Bool → ℕ → List ℕ → Result ReadToken Why
payload_lines life moment late issued plain = do
  payload ← found (payload_of plain) why.Payload
  _ ← need (nat_le issued moment) why.Future
  _ ← need (nat_lt moment (end_of late payload.expires)) why.Expired
  _ ← need (nat_le payload.expires (issued + life)) why.Span
  Ok (record { payload = payload; issued = issued; plain = plain })

-- these behind `Text` and `Key`: what the token holds, or the first line that does not hold
abbrev pub token_lines : ℕ → ℕ → Bool → OpenAnswer → Result ReadToken Why
token_lines life moment late NotText = Err why.Text
token_lines life moment late No = Err why.Key
token_lines life moment late (Yes issued plain) = payload_lines life moment late issued plain
