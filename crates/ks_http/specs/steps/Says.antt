-- What the answers of the parts of a reader say of a head.
use Rattle.std.specs.Prelude.{◌≡◌, ℕ, min, List, [], ◌∷◌, map, Result, Ok, Err, ⊤}
use Rattle.httparse.specs.Spans.{header_bytes}
use Rattle.ks_http.specs.declared.cause.HttpCause.{HttpCause}
use Rattle.ks_http.specs.declared.ending.Ending.{Ending}
use Rattle.ks_http.specs.declared.ending.Ending.TheVariants.{End, Bad, ReadFault, Memory}
use Rattle.ks_http.specs.declared.fields.Fields.{Fields}
use Rattle.ks_http.specs.declared.fields.Only.{Only}
use Rattle.ks_http.specs.declared.fields.Only.TheVariants.{Absent, Once, Repeated}
use Rattle.ks_http.specs.Fields.{Named}
use Rattle.ks_http.specs.Heads.{announced}

-- an ending has the cause that the definition gives, or there was no memory
abbrev pub Refuses : {A : Type 0} → Result A HttpCause → Ending → Type 0
Refuses said (Bad cause) = said ≡ Err cause
Refuses said Memory = ⊤
Refuses said End = ⊥
Refuses said ReadFault = ⊥

-- an answer is the one that the definition gives, or there was no memory
abbrev pub Says : {A : Type 0} → Result A HttpCause → Result A Ending → Type 0
Says said (Ok a) = said ≡ Ok a
Says said (Err ending) = Refuses said ending

-- the fields as names and values
abbrev pub named : Fields → List Named
named fields = map (header_bytes fields.bytes.now) fields.spans.now

-- these are the values
abbrev pub IsOnly : List (List ℕ) → Only → Type 0
IsOnly values Absent = values ≡ []
IsOnly values (Once value) = values ≡ value.now ∷ []
IsOnly values Repeated = (a : List ℕ) × (b : List ℕ) × (rest : List (List ℕ)) × (values ≡ a ∷ b ∷ rest)

-- a number of bytes, or one more than a body may have
abbrev pub capped : ℕ → ℕ
capped number = min number 114689

-- the number that a head announces, or one more than a body may have
abbrev pub SaysCapped : List (List ℕ) → Result ℕ Ending → Type 0
SaysCapped values (Ok n) = (number : ℕ) × (announced values ≡ Ok number) × (n ≡ capped number)
SaysCapped values (Err ending) = Refuses (announced values) ending

-- the values so far, and those that are still to come
abbrev pub Begun : List (List ℕ) → Only → List (List ℕ) → Type 0
Begun rest Absent values = values ≡ rest
Begun rest (Once value) values = values ≡ value.now ∷ rest
Begun rest Repeated values = IsOnly values Repeated
