-- The laws of payloads, from the readers of their fields.
use Rattle.std.proofs.Common.{◌≡◌, ℕ, zero, suc, ◌<◌, ◌≤◌, true, false, ◌==◌, nat_le, cond, List, [], ◌∷◌, ◌++◌, length, Option, Some, None, unwrap_or, refl, sym, ap, ◌∙◌, arith, append_assoc, append-nil, inl, inr, subst}
use Rattle.std.proofs.lemmas.Bool.{eqb-true}
use Rattle.std.specs.Prelude.{◌⊎◌, ◌↔◌, is_some, IfSome, slice_get}
use Rattle.std.proofs.lemmas.Bool.Decides.{nat_tests}
use Rattle.std.proofs.lemmas.Nat.{be_bytes_8, from_be_bytes-to_be_bytes_8}
use Rattle.std.proofs.lemmas.Option.{cond_some}
use Rattle.std.specs.Int.{w64, to_be_bytes, from_be_bytes, bytes_high_first, byte_at}
use Rattle.hex.specs.Hex.{IsBytes}
use Rattle.ks_base.specs.Ids.{IsId}
use Rattle.ks_payload.specs.IdFields.{id_field}
use Rattle.ks_payload.specs.Payloads.{has_domain, has_project, has_trust, has_credential, last_expiry, field_if_any, audit_field, scope_field, fields, spelling, old_spelling, IsSixteenBytes, IsInRange, IsPayload}
use Rattle.ks_payload.specs.Readings.{take_number, take_bytes, take_id, take_if, last_kind, take_head, take_scope, take_expiry, take_audits, take_payload, payload_of, if_whole}
use Rattle.ks_payload.specs.declared.payload.Payload.{Payload}
use Rattle.ks_payload.proofs.FieldLemmas.{bind_some, taken_number, takes_number, taken_bytes, takes_bytes, taken_id, takes_id, taken_id_if, takes_id_if, taken_bytes_if, chain_bytes}

-- ---- the version

-- the versions that have a payload
abbrev pub IsVersion : ℕ → Payload → Type 0
IsVersion version p = (version ≡ 2) ⊎ ((version ≡ 1) × (p.kind ≤ 3))

pub version_of : (p : Payload) (bytes : List ℕ) → IsPayload bytes p → (version : ℕ) × IsVersion version p × (bytes ≡ version ∷ fields p)
unfolding spelling old_spelling
version_of p bytes is = elim is.1 [ inl new ↦ (2, inl refl, new) | inr old ↦ (1, inr (refl, old.0), old.1) ]

pub payload_in : (p : Payload) (version : ℕ) (bytes : List ℕ) → IsInRange p → IsVersion version p → bytes ≡ version ∷ fields p → IsPayload bytes p
unfolding spelling old_spelling
payload_in p version bytes in_range is e = (
  in_range,
  elim is [
    | inl new ↦ inl (e ∙ ap (λ v. v ∷ fields p) new)
    | inr old ↦ inr (old.1, e ∙ ap (λ v. v ∷ fields p) old.0)
  ],
)

version_within : (p : Payload) (version : ℕ) → IsInRange p → IsVersion version p → (1 ≤ version) × (version ≤ 2) × (p.kind ≤ last_kind version)
version_within p version in_range is = elim is [
  | inl new ↦ rw new (omega arith, omega arith, in_range.kind)
  | inr old ↦ rw old.0 (omega arith, omega arith, old.1)
]

kinds_within : (version kind : ℕ) → 1 ≤ version → version ≤ 2 → kind ≤ last_kind version →
    (kind ≤ 5) × ((version ≡ 2) ⊎ ((version ≡ 1) × (kind ≤ 3)))
kinds_within zero kind low high k = absurd (omega arith)
kinds_within (suc zero) kind low high k = (omega (arith, k), inr (refl, k))
kinds_within (suc (suc zero)) kind low high k = (k, inl refl)
kinds_within (suc (suc (suc n))) kind low high k = absurd (omega arith)

-- ---- version, kind and methods

taken_head : (xs : List ℕ) (f : (ℕ × ℕ) × List ℕ) → take_head xs ≡ Some f →
    (version : ℕ) × (1 ≤ version) × (version ≤ 2) × (f.0.0 ≤ last_kind version) × (1 ≤ f.0.1) × (f.0.1 ≤ 15)
    × (xs ≡ version ∷ f.0.0 ∷ f.0.1 ∷ f.1)
unfolding take_head
taken_head xs f h =
    let v = bind_some (take_number 1 2 xs) _ f h in
    let k = bind_some (take_number 0 (last_kind v.0.0) v.0.1) _ f v.2 in
    let m = bind_some (take_number 1 15 k.0.1) _ f k.2 in
    let same : ((k.0.0, m.0.0), m.0.1) ≡ f = ap (λ o. unwrap_or o f) m.2 in
    let version = taken_number 1 2 xs v.0 v.1 in
    let kind = taken_number 0 (last_kind v.0.0) v.0.1 k.0 k.1 in
    let methods = taken_number 1 15 k.0.1 m.0 m.1 in
    rw (← same) (v.0.0, version.0, version.1, kind.1, methods.0, methods.1, three_items xs v.0.1 k.0.1 m.0.1 v.0.0 k.0.0 m.0.0 version.2 kind.2 methods.2)
  where
    three_items : (xs first second third : List ℕ) (v k m : ℕ) → xs ≡ v ∷ first → first ≡ k ∷ second → second ≡ m ∷ third →
        xs ≡ v ∷ k ∷ m ∷ third
    three_items xs first second third v k m e1 e2 e3 = cc

takes_head : (version kind methods : ℕ) (rest : List ℕ) → 1 ≤ version → version ≤ 2 → kind ≤ last_kind version → 1 ≤ methods → methods ≤ 15 →
    take_head (version ∷ kind ∷ methods ∷ rest) ≡ Some ((kind, methods), rest)
unfolding take_head
takes_head version kind methods rest first last k low high =
    rw (
      takes_number 1 2 version (kind ∷ methods ∷ rest) first last,
      takes_number 0 (last_kind version) kind (methods ∷ rest) (omega arith) k,
      takes_number 1 15 methods rest low high,
    ) refl

-- ---- scope

taken_scope : (kind : ℕ) (xs : List ℕ) (f : (Option (List ℕ) × Option (List ℕ) × Option (List ℕ) × Option (List ℕ)) × List ℕ) → take_scope kind xs ≡ Some f →
    ((is_some f.0.0 ≡ has_domain kind) × IfSome f.0.0 IsId) × ((is_some f.0.1 ≡ has_project kind) × IfSome f.0.1 IsId)
    × ((is_some f.0.2 ≡ has_trust kind) × IfSome f.0.2 IsId) × ((is_some f.0.3 ≡ has_credential kind) × IfSome f.0.3 IsId)
    × (xs ≡ field_if_any f.0.0 ++ (field_if_any f.0.1 ++ (field_if_any f.0.2 ++ (field_if_any f.0.3 ++ f.1))))
unfolding take_scope
taken_scope kind xs f h =
    let d = bind_some (take_if (has_domain kind) take_id xs) _ f h in
    let p = bind_some (take_if (has_project kind) take_id d.0.1) _ f d.2 in
    let t = bind_some (take_if (has_trust kind) take_id p.0.1) _ f p.2 in
    let c = bind_some (take_if (has_credential kind) take_id t.0.1) _ f t.2 in
    let same : ((d.0.0, p.0.0, t.0.0, c.0.0), c.0.1) ≡ f = ap (λ o. unwrap_or o f) c.2 in
    let domain = taken_id_if (has_domain kind) xs d.0 d.1 in
    let project = taken_id_if (has_project kind) d.0.1 p.0 p.1 in
    let trust = taken_id_if (has_trust kind) p.0.1 t.0 t.1 in
    let credential = taken_id_if (has_credential kind) t.0.1 c.0 c.1 in
    rw (← same) (
      (domain.0, domain.1),
      (project.0, project.1),
      (trust.0, trust.1),
      (credential.0, credential.1),
      domain.2
          ∙ ap (λ ys. field_if_any d.0.0 ++ ys) (project.2
          ∙ ap (λ ys. field_if_any p.0.0 ++ ys) (trust.2 ∙ ap (λ ys. field_if_any t.0.0 ++ ys) credential.2)),
    )

regroup_scope : (d p t c ys : List ℕ) → d ++ (p ++ (t ++ (c ++ ys))) ≡ (d ++ (p ++ (t ++ c))) ++ ys
regroup_scope d p t c ys = simp append_assoc

takes_scope : (p : Payload) (rest : List ℕ) → IsInRange p →
    take_scope p.kind (scope_field p ++ rest) ≡ Some ((p.domain, p.project, p.trust, p.credential), rest)
unfolding take_scope
takes_scope p rest in_range =
    let last = field_if_any p.credential ++ rest in
    rw (
      sym (regroup_scope (field_if_any p.domain) (field_if_any p.project) (field_if_any p.trust) (field_if_any p.credential) rest),
      takes_id_if (has_domain p.kind) p.domain (field_if_any p.project ++ (field_if_any p.trust ++ last)) in_range.has_domain_id in_range.domain,
      takes_id_if (has_project p.kind) p.project (field_if_any p.trust ++ last) in_range.has_project_id in_range.project,
      takes_id_if (has_trust p.kind) p.trust last in_range.has_trust_id in_range.trust,
      takes_id_if (has_credential p.kind) p.credential rest in_range.has_credential_id in_range.credential,
    ) refl

-- ---- expiry

taken_expiry : (xs : List ℕ) (f : ℕ × List ℕ) → take_expiry xs ≡ Some f → (f.0 ≤ last_expiry) × (xs ≡ to_be_bytes w64 f.0 ++ f.1)
unfolding take_expiry
taken_expiry xs f h =
    let b = bind_some (take_bytes 8 xs) _ f h in
    let t = taken_bytes 8 xs b.0 b.1 in
    let p = cond_some (nat_le (from_be_bytes w64 b.0.0) last_expiry) (from_be_bytes w64 b.0.0, b.0.1) f b.2 in
    let low = at_most (from_be_bytes w64 b.0.0) last_expiry p.0 in
    rw (← p.1) (low, t.2 ∙ ap (λ ys. ys ++ b.0.1) (sym (be_bytes_8 b.0.0 (from_be_bytes w64 b.0.0) t.0 t.1 refl)))
  where
    at_most : (m n : ℕ) → nat_le m n ≡ true → m ≤ n
    at_most m n h = grind (arith, nat_tests)

bytes_of_number : (k n : ℕ) → IsBytes (bytes_high_first k n)
bytes_of_number zero n = λ i. omega arith
bytes_of_number (suc k) n = front (byte_at k n) (bytes_high_first k n) (one_byte k) (bytes_of_number k n)
  where
    one_byte : (j : ℕ) → byte_at j n < 256
    one_byte zero = omega arith
    one_byte (suc j) = omega arith

    front : (b : ℕ) (rest : List ℕ) → b < 256 → IsBytes rest → IsBytes (b ∷ rest)
    front b rest h hs zero = h
    front b rest h hs (suc i) = hs i

pub expiry_from_field : (field rest : List ℕ) (expires : ℕ) → length field ≡ 8 → IsBytes field → from_be_bytes w64 field ≡ expires → expires ≤ last_expiry →
    take_expiry (field ++ rest) ≡ Some (expires, rest)
unfolding take_expiry
expiry_from_field field rest expires long fits back low =
    rw (takes_bytes 8 field rest long fits) (kept (from_be_bytes w64 field) expires back low)
  where
    at_most : (m n : ℕ) → m ≤ n → nat_le m n ≡ true
    at_most m n h = grind (arith, nat_tests)

    kept : (n expires : ℕ) → n ≡ expires → expires ≤ last_expiry → cond {A = Option (ℕ × List ℕ)} (nat_le n last_expiry) (Some (n, rest)) None ≡ Some (expires, rest)
    kept n expires e low = rw (e, at_most expires last_expiry low) refl

takes_expiry : (expires : ℕ) (rest : List ℕ) → expires ≤ last_expiry →
    take_expiry (to_be_bytes w64 expires ++ rest) ≡ Some (expires, rest)
takes_expiry expires rest low =
    expiry_from_field (to_be_bytes w64 expires) rest expires refl (bytes_of_number 8 expires) (from_be_bytes-to_be_bytes_8 expires (omega arith)) low

-- ---- audit ids

audit_field_of : (audit : List ℕ) (chain : Option (List ℕ)) (count : ℕ) → is_some chain ≡ (count == 2) → 1 ≤ count → count ≤ 2 →
    count ∷ (audit ++ chain_bytes chain) ≡ audit_field audit chain
audit_field_of audit None count e low high =
    let one : count ≡ 1 = one_id count (sym e) low high in
    rw one (ap (λ ys. 1 ∷ ys) (append-nil audit))
  where
    one_id : (n : ℕ) → (n == 2) ≡ false → 1 ≤ n → n ≤ 2 → n ≡ 1
    one_id n e low high = grind (arith, nat_tests)
audit_field_of audit (Some chain) count e low high =
    let two : count ≡ 2 = eqb-true count 2 (sym e) in
    rw two refl

taken_audits : (xs : List ℕ) (f : (List ℕ × Option (List ℕ)) × List ℕ) → take_audits xs ≡ Some f →
    IsSixteenBytes f.0.0 × IfSome f.0.1 IsSixteenBytes × (xs ≡ audit_field f.0.0 f.0.1 ++ f.1)
unfolding take_audits
taken_audits xs f h =
    let n = bind_some (take_number 1 2 xs) _ f h in
    let a = bind_some (take_bytes 16 n.0.1) _ f n.2 in
    let c = bind_some (take_if (n.0.0 == 2) (take_bytes 16) a.0.1) _ f a.2 in
    let same : ((a.0.0, c.0.0), c.0.1) ≡ f = ap (λ o. unwrap_or o f) c.2 in
    let count = taken_number 1 2 xs n.0 n.1 in
    let audit = taken_bytes 16 n.0.1 a.0 a.1 in
    let chain = taken_bytes_if (n.0.0 == 2) a.0.1 c.0 c.1 in
    rw (← same) (
      (audit.0, audit.1),
      chain.1,
      count.2 ∙ ap (λ ys. n.0.0 ∷ ys) (audit.2 ∙ ap (λ ys. a.0.0 ++ ys) chain.2 ∙ sym (append_assoc a.0.0 (chain_bytes c.0.0) c.0.1))
          ∙ ap (λ ys. ys ++ c.0.1) (audit_field_of a.0.0 c.0.0 n.0.0 chain.0 count.0 count.1),
    )

takes_audits : (audit : List ℕ) (chain : Option (List ℕ)) (rest : List ℕ) → IsSixteenBytes audit → IfSome chain IsSixteenBytes →
    take_audits (audit_field audit chain ++ rest) ≡ Some ((audit, chain), rest)
unfolding take_audits
takes_audits audit None rest is none =
    rw (takes_number 1 2 1 (audit ++ rest) (omega arith) (omega arith), takes_bytes 16 audit rest is.0 is.1) refl
takes_audits audit (Some chain) rest is some =
    rw (
      takes_number 1 2 2 ((audit ++ chain) ++ rest) (omega arith) (omega arith),
      append_assoc audit chain rest,
      takes_bytes 16 audit (chain ++ rest) is.0 is.1,
      takes_bytes 16 chain rest some.0 some.1,
    ) refl

-- ---- the payload

regroup : (v k m : ℕ) (a b c d rest : List ℕ) → (v ∷ k ∷ m ∷ (a ++ (b ++ (c ++ d)))) ++ rest ≡ v ∷ k ∷ m ∷ (a ++ (b ++ (c ++ (d ++ rest))))
regroup v k m a b c d rest = simp append_assoc

regroup_payload : (version : ℕ) (p : Payload) (rest : List ℕ) → (version ∷ fields p) ++ rest
    ≡ version ∷ p.kind ∷ p.methods ∷ (id_field p.user ++ (scope_field p ++ (to_be_bytes w64 p.expires ++ (audit_field p.audit p.chain ++ rest))))
regroup_payload version p rest = regroup version p.kind p.methods (id_field p.user) (scope_field p) (to_be_bytes w64 p.expires) (audit_field p.audit p.chain) rest

fields_spell : (version : ℕ) (p : Payload) (xs after_head after_user after_scope after_expiry rest : List ℕ) →
    xs ≡ version ∷ p.kind ∷ p.methods ∷ after_head → after_head ≡ id_field p.user ++ after_user →
    after_user ≡ field_if_any p.domain ++ (field_if_any p.project ++ (field_if_any p.trust ++ (field_if_any p.credential ++ after_scope))) →
    after_scope ≡ to_be_bytes w64 p.expires ++ after_expiry → after_expiry ≡ audit_field p.audit p.chain ++ rest → xs ≡ (version ∷ fields p) ++ rest
fields_spell version p xs after_head after_user after_scope after_expiry rest head user scope expiry audits =
    let scoped = regroup_scope (field_if_any p.domain) (field_if_any p.project) (field_if_any p.trust) (field_if_any p.credential) after_scope in
    head ∙ ap (λ ys. version ∷ p.kind ∷ p.methods ∷ ys) (user ∙ ap (λ ys. id_field p.user ++ ys) (scope ∙ scoped ∙ ap (λ ys. scope_field p ++ ys) (expiry ∙ ap (λ ys. to_be_bytes w64 p.expires ++ ys) audits)))
    ∙ sym (regroup_payload version p rest)

taken_payload : (xs : List ℕ) (f : Payload × List ℕ) → take_payload xs ≡ Some f →
    (version : ℕ) × IsInRange f.0 × IsVersion version f.0 × (xs ≡ (version ∷ fields f.0) ++ f.1)
unfolding take_payload
taken_payload xs f h =
    let head = bind_some (take_head xs) _ f h in
    let user = bind_some (take_id head.0.1) _ f head.2 in
    let scope = bind_some (take_scope head.0.0.0 user.0.1) _ f user.2 in
    let expires = bind_some (take_expiry scope.0.1) _ f scope.2 in
    let audits = bind_some (take_audits expires.0.1) _ f expires.2 in
    let a = taken_head xs head.0 head.1 in
    let kinds = kinds_within a.0 head.0.0.0 a.1 a.2 a.3 in
    let b = taken_id head.0.1 user.0 user.1 in
    let c = taken_scope head.0.0.0 user.0.1 scope.0 scope.1 in
    let d = taken_expiry scope.0.1 expires.0 expires.1 in
    let e = taken_audits expires.0.1 audits.0 audits.1 in
    let whole : Payload = record {
      kind = head.0.0.0;
      methods = head.0.0.1;
      user = user.0.0;
      domain = scope.0.0.0;
      project = scope.0.0.1;
      trust = scope.0.0.2;
      expires = expires.0.0;
      audit = audits.0.0.0;
      chain = audits.0.0.1;
      credential = scope.0.0.3;
    } in
    let same : (whole, audits.0.1) ≡ f = ap (λ o. unwrap_or o f) audits.2 in
    rw (← same) (
      a.0,
      record {
        kind = kinds.0;
        some_method = a.4;
        methods = a.5;
        user = b.0;
        has_domain_id = c.0.0;
        domain = c.0.1;
        has_project_id = c.1.0;
        project = c.1.1;
        has_trust_id = c.2.0;
        trust = c.2.1;
        expires = d.0;
        audit = e.0;
        chain = e.1;
        has_credential_id = c.3.0;
        credential = c.3.1;
      },
      kinds.1,
      fields_spell a.0 whole xs head.0.1 user.0.1 scope.0.1 expires.0.1 audits.0.1 a.6 b.1 c.4 d.1 e.2,
    )

takes_fields : (version : ℕ) (p : Payload) (expiry rest : List ℕ) → IsInRange p → IsVersion version p → ((r : List ℕ) → take_expiry (expiry ++ r) ≡ Some (p.expires, r)) →
    take_payload (version ∷ p.kind ∷ p.methods ∷ (id_field p.user ++ (scope_field p ++ (expiry ++ (audit_field p.audit p.chain ++ rest))))) ≡ Some (p, rest)
unfolding take_payload
takes_fields version p expiry rest in_range is taken =
    let after_expiry = audit_field p.audit p.chain ++ rest in
    let after_scope = expiry ++ after_expiry in
    let after_user = scope_field p ++ after_scope in
    let w = version_within p version in_range is in
    rw (
      takes_head version p.kind p.methods (id_field p.user ++ after_user) w.0 w.1 w.2 in_range.some_method in_range.methods,
      takes_id p.user after_user in_range.user,
      takes_scope p after_scope in_range,
      taken after_expiry,
      takes_audits p.audit p.chain rest in_range.audit in_range.chain,
    ) refl

pub takes_payload : (version : ℕ) (p : Payload) (rest : List ℕ) → IsInRange p → IsVersion version p → take_payload ((version ∷ fields p) ++ rest) ≡ Some (p, rest)
takes_payload version p rest in_range is =
    ap (λ xs. take_payload xs) (regroup_payload version p rest)
    ∙ takes_fields version p (to_be_bytes w64 p.expires) rest in_range is (λ r. takes_expiry p.expires r in_range.expires)

-- ---- the laws

pub reads_payload : (p : Payload) (bytes : List ℕ) → IsPayload bytes p → payload_of bytes ≡ Some p
unfolding payload_of
reads_payload p bytes is =
    let v = version_of p bytes is in
    let alone : take_payload bytes ≡ Some (p, []) = ap (λ xs. take_payload xs) (v.2 ∙ sym (append-nil (v.0 ∷ fields p))) ∙ takes_payload v.0 p [] is.0 v.1 in
    rw alone refl

whole_is : (p q : Payload) (rest : List ℕ) → if_whole p rest ≡ Some q → (p ≡ q) × (rest ≡ [])
whole_is p q [] h = (ap (λ o. unwrap_or o p) h, refl)
whole_is p q (b ∷ rest) h = cc h

pub read_payload : (p : Payload) (bytes : List ℕ) → payload_of bytes ≡ Some p → IsPayload bytes p
unfolding payload_of
read_payload p bytes h =
    let b = bind_some (take_payload bytes) (λ found. if_whole found.0 found.1) p h in
    let w = whole_is b.0.0 p b.0.1 b.2 in
    let t = taken_payload bytes b.0 b.1 in
    let whole : bytes ≡ t.0 ∷ fields b.0.0 = t.3 ∙ ap (λ ys. (t.0 ∷ fields b.0.0) ++ ys) w.1 ∙ append-nil (t.0 ∷ fields b.0.0) in
    rw (← w.0) (payload_in b.0.0 t.0 bytes t.1 t.2 whole)

pub no_payload : (bytes : List ℕ) → payload_of bytes ≡ None → (p : Payload) → ¬ IsPayload bytes p
no_payload bytes none p is = let some = reads_payload p bytes is in cc

pub none_from : (bytes : List ℕ) → ((p : Payload) → ¬ IsPayload bytes p) → payload_of bytes ≡ None
none_from bytes none = nothing (payload_of bytes) (λ p some. none p (read_payload p bytes some))
  where
    nothing : (o : Option Payload) → ((p : Payload) → o ≡ Some p → ⊥) → o ≡ None
    nothing (Some p) h = absurd (h p refl)
    nothing None h = refl

pub same_payload : (bytes : List ℕ) (p q : Payload) → IsPayload bytes p → IsPayload bytes q → p ≡ q
same_payload bytes p q a b = ap (λ o. unwrap_or o p) (sym (reads_payload p bytes a) ∙ reads_payload q bytes b)

pub same_bytes : (p : Payload) (a b : List ℕ) → slice_get a 0 ≡ slice_get b 0 → IsPayload a p → IsPayload b p → a ≡ b
same_bytes p a b first ha hb =
    let va = version_of p a ha in
    let vb = version_of p b hb in
    let versions : Some va.0 ≡ Some vb.0 = ap (λ xs. slice_get xs 0) (sym va.2) ∙ first ∙ ap (λ xs. slice_get xs 0) vb.2 in
    va.2 ∙ ap (λ o. unwrap_or o 0 ∷ fields p) versions ∙ sym vb.2

pub versions_of : (p : Payload) → IsInRange p → (version : ℕ) → ((rest : List ℕ) × IsPayload (version ∷ rest) p) ↔ IsVersion version p
versions_of p in_range version = (
  λ (rest, is). (let v = version_of p (version ∷ rest) is in
      let same : v.0 ≡ version = ap (λ xs. first xs) (sym v.2) in
      let P : ℕ → Type 0 = λ n. IsVersion n p in subst P same v.1),
  λ is. (fields p, payload_in p version (version ∷ fields p) in_range is refl),
)
  where
    first : List ℕ → ℕ
    first [] = 0
    first (x ∷ xs) = x

pub nothing_more : (p q : Payload) (a more : List ℕ) → IsPayload a p → IsPayload (a ++ more) q → more ≡ []
nothing_more p q a more ha hb =
    let va = version_of p a ha in
    let vb = version_of q (a ++ more) hb in
    let first : take_payload (a ++ more) ≡ Some (p, more) = ap (λ xs. take_payload (xs ++ more)) va.2 ∙ takes_payload va.0 p more ha.0 va.1 in
    let second : take_payload (a ++ more) ≡ Some (q, []) = ap (λ xs. take_payload xs) (vb.2 ∙ sym (append-nil (vb.0 ∷ fields q))) ∙ takes_payload vb.0 q [] hb.0 vb.1 in
    ap (λ (o : Option (Payload × List ℕ)). (unwrap_or o (p, more)).1) (sym first ∙ second)

pub reading_is : (bytes : List ℕ) (o : Option Payload) → o ≡ payload_of bytes → IfSome o (λ p. IsPayload bytes p)
reading_is bytes (Some p) h = read_payload p bytes (sym h)
reading_is bytes None h = tt

joined : (k m : ℕ) (u d p t c e a : List ℕ) →
    (((((((2 ∷ k ∷ m ∷ []) ++ u) ++ d) ++ p) ++ t) ++ c) ++ e) ++ a ≡ 2 ∷ k ∷ m ∷ (u ++ ((d ++ (p ++ (t ++ c))) ++ (e ++ a)))
joined k m u d p t c e a = simp append_assoc

-- what stands there after each field that is written
pub written : (p : Payload) (start head user domain project trust credential expires whole : List ℕ) → start ≡ [] → head ≡ start ++ (2 ∷ p.kind ∷ p.methods ∷ []) →
    user ≡ head ++ id_field p.user → domain ≡ user ++ field_if_any p.domain → project ≡ domain ++ field_if_any p.project →
    trust ≡ project ++ field_if_any p.trust → credential ≡ trust ++ field_if_any p.credential →
    expires ≡ credential ++ to_be_bytes w64 p.expires → whole ≡ expires ++ audit_field p.audit p.chain → whole ≡ spelling p
unfolding spelling
written p start head user domain project trust credential expires whole e0 e1 e2 e3 e4 e5 e6 e7 e8 =
    let fields = joined p.kind p.methods (id_field p.user) (field_if_any p.domain) (field_if_any p.project) (field_if_any p.trust) (field_if_any p.credential) (to_be_bytes w64 p.expires) (audit_field p.audit p.chain) in
    rw (e8, e7, e6, e5, e4, e3, e2, e1, e0) fields
