-- The payload that bytes spell, computed: each field is read off the front of the bytes.
use Rattle.std.specs.Prelude.{ℕ, zero, Bool, true, false, not, ◌&&◌, ◌==◌, nat_le, nat_lt, if◌then◌else◌, List, [], ◌∷◌, length, take, drop, Option, Some, None, option_and_then, option_map}
use Rattle.std.specs.List.{list_all}
use Rattle.std.specs.Int.{w64, from_be_bytes}
use Rattle.hex.specs.Hex.{encode_lower}
use Rattle.ks_base.specs.Ids.{is_id_byte}
use Rattle.ks_base.specs.declared.limits.TheConstants.{ID_BYTES}
use Rattle.ks_payload.specs.IdFields.{is_hex_id}
use Rattle.ks_payload.specs.Payloads.{has_domain, has_project, has_trust, has_credential, last_expiry}
use Rattle.ks_payload.specs.declared.payload.Payload.{Payload}

infixl 10 ◌>>=◌
abbrev pub ◌>>=◌ : {A B : Type 0} → Option A → (A → Option B) → Option B
o >>= f = option_and_then f o

-- a byte from the least to the most, and the rest
unfoldable pub take_number : ℕ → ℕ → List ℕ → Option (ℕ × List ℕ)
take_number least most [] = None
take_number least most (b ∷ rest) = if nat_le least b && nat_le b most then Some (b, rest) else None

-- n bytes, and the rest
unfoldable pub take_bytes : ℕ → List ℕ → Option (List ℕ × List ℕ)
take_bytes n bytes =
    if nat_le n (length bytes) && list_all (λ b. nat_lt b 256) (take n bytes) then Some (take n bytes, drop n bytes) else None

-- an id of n bytes that is not 32 lower hex digits, and the rest
unfoldable pub take_plain_id : ℕ → List ℕ → Option (List ℕ × List ℕ)
take_plain_id n bytes =
    if nat_le n (length bytes) && (nat_lt 0 n && (nat_le n ID_BYTES && (list_all is_id_byte (take n bytes) && not (is_hex_id (take n bytes)))))
    then Some (take n bytes, drop n bytes) else None

-- the id whose digits are those of 16 bytes, and the rest
unfoldable pub take_hex_id : List ℕ → Option (List ℕ × List ℕ)
take_hex_id bytes = do
  packed ← take_bytes 16 bytes
  Some (encode_lower packed.0, packed.1)

unfoldable pub take_id : List ℕ → Option (List ℕ × List ℕ)
take_id [] = None
take_id (zero ∷ rest) = take_hex_id rest
take_id (n ∷ rest) = take_plain_id n rest

-- what the reader takes where it is there
abbrev pub take_if : Bool → (List ℕ → Option (List ℕ × List ℕ)) → List ℕ → Option (Option (List ℕ) × List ℕ)
take_if true reader bytes = option_map (λ found. (Some found.0, found.1)) (reader bytes)
take_if false reader bytes = Some (None, bytes)

-- the last kind of a version
abbrev pub last_kind : ℕ → ℕ
last_kind version = if version == 1 then 3 else 5

-- kind and methods, behind the version
unfoldable pub take_head : List ℕ → Option ((ℕ × ℕ) × List ℕ)
take_head bytes = do
  version ← take_number 1 2 bytes
  kind ← take_number 0 (last_kind version.0) version.1
  methods ← take_number 1 15 kind.1
  Some ((kind.0, methods.0), methods.1)

-- the domain, the project, the trust and the credential of this kind
unfoldable pub take_scope : ℕ → List ℕ → Option ((Option (List ℕ) × Option (List ℕ) × Option (List ℕ) × Option (List ℕ)) × List ℕ)
take_scope kind bytes = do
  domain ← take_if (has_domain kind) take_id bytes
  project ← take_if (has_project kind) take_id domain.1
  trust ← take_if (has_trust kind) take_id project.1
  credential ← take_if (has_credential kind) take_id trust.1
  Some ((domain.0, project.0, trust.0, credential.0), credential.1)

unfoldable pub take_expiry : List ℕ → Option (ℕ × List ℕ)
take_expiry bytes = do
  field ← take_bytes 8 bytes
  if nat_le (from_be_bytes w64 field.0) last_expiry then Some (from_be_bytes w64 field.0, field.1) else None

-- the token's audit id and the chain's
unfoldable pub take_audits : List ℕ → Option ((List ℕ × Option (List ℕ)) × List ℕ)
take_audits bytes = do
  count ← take_number 1 2 bytes
  audit ← take_bytes 16 count.1
  chain ← take_if (count.0 == 2) (take_bytes 16) audit.1
  Some ((audit.0, chain.0), chain.1)

-- a payload, and the rest
unfoldable pub take_payload : List ℕ → Option (Payload × List ℕ)
take_payload bytes = do
  head ← take_head bytes
  user ← take_id head.1
  scope ← take_scope head.0.0 user.1
  expires ← take_expiry scope.1
  audits ← take_audits expires.1
  Some (
    record {
      kind = head.0.0;
      methods = head.0.1;
      user = user.0;
      domain = scope.0.0;
      project = scope.0.1;
      trust = scope.0.2;
      expires = expires.0;
      audit = audits.0.0;
      chain = audits.0.1;
      credential = scope.0.3;
    },
    audits.1,
  )

abbrev pub if_whole : Payload → List ℕ → Option Payload
if_whole p [] = Some p
if_whole p (b ∷ rest) = None

-- the payload that these bytes spell, computed field by field
unfoldable pub payload_of : List ℕ → Option Payload
payload_of bytes = do
  found ← take_payload bytes
  if_whole found.0 found.1
