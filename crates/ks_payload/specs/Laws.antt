-- What holds of all payloads and their spellings.
use Rattle.std.specs.Prelude.{◌≡◌, ◌≢◌, ◌↔◌, ◌⊎◌, ℕ, ◌≤◌, List, [], ◌∷◌, ◌++◌, length, Some, None, slice_get}
use Rattle.hex.specs.Hex.{encode_lower}
use Rattle.ks_payload.specs.IdFields.{id_field}
use Rattle.ks_payload.specs.Payloads.{IsPayload, IsInRange, IsSixteenBytes}
use Rattle.ks_payload.specs.Readings.{payload_of}
use Rattle.ks_payload.specs.declared.payload.Payload.{Payload}

-- law: `payload_of` finds a payload exactly where the bytes spell it
abbrev pub FindsEachPayload : Type 0
FindsEachPayload = (bytes : List ℕ) (p : Payload) → (payload_of bytes ≡ Some p) ↔ IsPayload bytes p

-- law: and finds none exactly where they spell none
abbrev pub FindsNoOther : Type 0
FindsNoOther = (bytes : List ℕ) → (payload_of bytes ≡ None) ↔ ((p : Payload) → ¬ IsPayload bytes p)

-- law: a payload in range has a spelling of version 2, and one of version 1 exactly where its kind is 0 to 3
abbrev pub HasItsVersions : Type 0
HasItsVersions = (p : Payload) → IsInRange p → (version : ℕ) →
    ((rest : List ℕ) × IsPayload (version ∷ rest) p) ↔ ((version ≡ 2) ⊎ ((version ≡ 1) × (p.kind ≤ 3)))

-- law: and one alone of each: spellings of a payload whose first byte, the version, is the same are the same
abbrev pub HasOneSpelling : Type 0
HasOneSpelling = (p : Payload) (a b : List ℕ) → slice_get a 0 ≡ slice_get b 0 → IsPayload a p → IsPayload b p → a ≡ b

abbrev pub HasOneReading : Type 0
HasOneReading = (bytes : List ℕ) (p q : Payload) → IsPayload bytes p → IsPayload bytes q → p ≡ q

-- law: what begins with a spelling and is one has nothing behind it
abbrev pub HasNoProperPrefix : Type 0
HasNoProperPrefix = (p q : Payload) (a more : List ℕ) → IsPayload a p → IsPayload (a ++ more) q → more ≡ []

-- 00 and 16 bytes whose lower hex digits the id is; or the length and the bytes of an id that is no such digits
abbrev pub IsIdField : List ℕ → List ℕ → Type 0
IsIdField field id =
    ((bytes : List ℕ) × IsSixteenBytes bytes × (id ≡ encode_lower bytes) × (field ≡ 0 ∷ bytes))
    ⊎ (((bytes : List ℕ) → IsSixteenBytes bytes → id ≢ encode_lower bytes) × (field ≡ length id ∷ id))

-- law: `id_field` is the field of an id
abbrev pub HasTheIdField : Type 0
HasTheIdField = (field id : List ℕ) → (field ≡ id_field id) ↔ IsIdField field id
