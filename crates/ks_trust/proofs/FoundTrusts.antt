-- Trusts that are found by what they name.
use Rattle.std.proofs.Common.{◌≡◌, ◌⊎◌, inl, inr, ℕ, Bool, true, false, ◌||◌, List, [], ◌∷◌, map, filter, Option, Some, None, refl, sym, ap, subst, ◌∙◌}
use Rattle.std.specs.declared.cmp.Ordering.TheVariants.{Less, Equal}
use Rattle.std.specs.Option.{option_map_or}
use Rattle.std.specs.Ordering.{is_eq, ordering_then}
use Rattle.std.proofs.lemmas.Bool.{or_left, or_right}
use Rattle.std.proofs.lemmas.Cmp.{nat_list_cmp_total, tied_itself}
use Rattle.std.proofs.lemmas.Slice.Eq.{bytes_eq-Decides}
use Rattle.ks_base.specs.declared.events.Revoke.{Revoke}
use Rattle.ks_base.specs.declared.events.Revoke.TheVariants as revoke
use Rattle.ks_base.specs.declared.trusts.TrustRow.{TrustRow}
use Rattle.ks_base.specs.Rows.{Id, same, trust_of}
use Rattle.ks_base.specs.Tables.{id_cmp, Among, IsAscending}
use Rattle.ks_base.specs.Trusts.{names_trust}
use Rattle.ks_base.proofs.AmongLemmas.{among_mapped, map_among}
use Rattle.ks_base.proofs.LinkLemmas.{ascending_same}
use Rattle.ks_base.proofs.RowLemmas.{among_filter, eq_is, filter_among, found_among, id_found}
use Rattle.ks_base.proofs.TableLemmas.{ascending_part, some_ids_ascend}
use Rattle.ks_trust.specs.declared.sides.Reference.{Reference}
use Rattle.ks_trust.specs.declared.sides.Reference.TheVariants as references
use Rattle.ks_trust.specs.declared.sides.TrustSide.{TrustSide}
use Rattle.ks_trust.specs.Sides.{last_reference, names, side_cmp, sides_of, reference_cmp, reference_exact, reference_total, AreSides}
use Rattle.ks_trust.specs.State.{ids_of}
use Rattle.ks_trust.proofs.SideLemmas.{new_id, side_trust}

abbrev key : TrustRow → Id
key row = row.id

-- ids that ascend, and are those of the trusts that pass, are these
pub record WithId (trusts : List TrustRow) (test : TrustRow → Bool) (id : Id) : Type 0 where
  pub trust : TrustRow
  pub stands : Among trusts trust
  pub passes : test trust ≡ true
  pub id_is : trust.id ≡ id

pub ids_by : (test : TrustRow → Bool) (trusts : List TrustRow) (ids : List Id) → IsAscending id_cmp key trusts → IsAscending id_cmp (λ id. id) ids →
    ((trust : TrustRow) → Among trusts trust → test trust ≡ true → Among ids trust.id) → ((id : Id) → Among ids id → WithId trusts test id) → ids ≡ ids_of (filter test trusts)
ids_by test trusts ids up ascend each only =
    ascending_same id_cmp nat_list_cmp_total ids (ids_of (filter test trusts)) ascend (some_ids_ascend key test trusts up) forth back
  where
    forth : (id : Id) → Among ids id → Among (ids_of (filter test trusts)) id
    forth id among =
        let one = only id among in
        subst (Among (ids_of (filter test trusts))) one.id_is (map_among key (filter test trusts) one.trust (filter_among test trusts one.trust one.stands one.passes))

    back : (id : Id) → Among (ids_of (filter test trusts)) id → Among ids id
    back id among =
        let one = among_mapped key (filter test trusts) id among in
        let both = among_filter test trusts one.0 one.1 in
        subst (Among ids) one.2 (each one.0 both.0 both.1)

-- a trust has the sides of what it names, and no others

last_names : (trust : TrustRow) (parent : Option Id) → trust.parent ≡ parent → names (last_reference trust.project parent) trust ≡ true
last_names trust None is = (bytes_eq-Decides trust.project trust.project).1 refl
last_names trust (Some parent) is = ap (λ (o : Option Id). option_map_or (λ id. same id parent) o false) is ∙ (bytes_eq-Decides parent parent).1 refl

pub side_names : (trust : TrustRow) (side : TrustSide) → Among (sides_of trust) side → names side.what trust ≡ true
side_names trust side (inl is) =
    subst (λ (s : TrustSide). names s.what trust ≡ true) is (or_left (same trust.trustor trust.trustor) (same trust.trustee trust.trustor) ((bytes_eq-Decides trust.trustor trust.trustor).1 refl))
side_names trust side (inr (inl is)) =
    subst (λ (s : TrustSide). names s.what trust ≡ true) is (or_right (same trust.trustor trust.trustee) (same trust.trustee trust.trustee) ((bytes_eq-Decides trust.trustee trust.trustee).1 refl))
side_names trust side (inr (inr (inl is))) = subst (λ (s : TrustSide). names s.what trust ≡ true) is ((bytes_eq-Decides trust.project trust.project).1 refl)
side_names trust side (inr (inr (inr (inl is)))) = subst (λ (s : TrustSide). names s.what trust ≡ true) is (last_names trust trust.parent refl)
side_names trust side (inr (inr (inr (inr none)))) = absurd none

abbrev pub side_at : Reference → TrustRow → TrustSide
side_at what trust = record { what = what; trust = trust.id }

user_side : (id : Id) (trust : TrustRow) (a : Bool) → same trust.trustor id ≡ a → (a || same trust.trustee id) ≡ true → Among (sides_of trust) (side_at (references.User id) trust)
user_side id trust true is named = inl (ap (λ (u : Id). side_at (references.User u) trust) ((bytes_eq-Decides trust.trustor id).0 is))
user_side id trust false is named = inr (inl (ap (λ (u : Id). side_at (references.User u) trust) ((bytes_eq-Decides trust.trustee id).0 named)))

last_is : (id project : Id) (parent : Option Id) → option_map_or (λ p. same p id) parent false ≡ true → last_reference project parent ≡ references.Parent id
last_is id project None named = cc
last_is id project (Some parent) named = ap references.Parent ((bytes_eq-Decides parent id).0 named)

pub names_side : (what : Reference) (trust : TrustRow) → names what trust ≡ true → Among (sides_of trust) (side_at what trust)
names_side (references.User id) trust named = user_side id trust (same trust.trustor id) refl named
names_side (references.Project id) trust named = inr (inr (inl (ap (λ (p : Id). side_at (references.Project p) trust) ((bytes_eq-Decides trust.project id).0 named))))
names_side (references.Parent id) trust named = inr (inr (inr (inl (ap (λ (w : Reference). side_at w trust) (last_is id trust.project trust.parent named)))))

-- the run of one thing

abbrev is_of : Reference → TrustSide → Bool
is_of what side = is_eq (reference_cmp side.what what)

what_is : (what : Reference) (side : TrustSide) → is_of what side ≡ true → side.what ≡ what
what_is what side is = reference_exact side.what what (eq_is (reference_cmp side.what what) is)

within : (what : Reference) (a b : TrustSide) → is_of what a ≡ true → is_of what b ≡ true → side_cmp a b ≡ Less → id_cmp a.trust b.trust ≡ Less
within what a b first second less =
    let alike : a.what ≡ b.what = what_is what a first ∙ sym (what_is what b second) in
    let tied : reference_cmp a.what b.what ≡ Equal = ap (λ w. reference_cmp w b.what) alike ∙ tied_itself reference_total b.what in
    ap (λ o. ordering_then o (id_cmp a.trust b.trust)) (sym tied) ∙ less

pub ids_along : (what : Reference) (trusts : List TrustRow) (sides : List TrustSide) → IsAscending id_cmp key trusts → IsAscending side_cmp (λ side. side) sides → AreSides trusts sides →
    map (λ side. side.trust) (filter (λ side. is_eq (reference_cmp side.what what)) sides) ≡ ids_of (filter (names what) trusts)
ids_along what trusts sides up across are =
    ids_by (names what) trusts (map trust_at (filter (is_of what) sides)) up (ascending_part side_cmp (λ side. side) id_cmp trust_at (is_of what) sides (within what) across) each only
  where
    trust_at : TrustSide → Id
    trust_at side = side.trust

    each : (trust : TrustRow) → Among trusts trust → names what trust ≡ true → Among (map trust_at (filter (is_of what) sides)) trust.id
    each trust stands named =
        map_among trust_at (filter (is_of what) sides) (side_at what trust)
        (filter_among (is_of what) sides (side_at what trust) (are.forth trust stands (side_at what trust) (names_side what trust named)) (ap is_eq (tied_itself reference_total what)))

    only : (id : Id) → Among (map trust_at (filter (is_of what) sides)) id → WithId trusts (names what) id
    only id among =
        let one = among_mapped trust_at (filter (is_of what) sides) id among in
        let both = among_filter (is_of what) sides one.0 one.1 in
        let there = are.back one.0 both.0 in
        record {
          trust = there.0;
          stands = there.1;
          passes = subst (λ w. names w there.0 ≡ true) (what_is what one.0 both.1) (side_names there.0 one.0 there.2);
          id_is = sym (side_trust there.0 one.0 there.2) ∙ one.2;
        }

-- the trust of one id

pub none_with : (id : Id) (trusts : List TrustRow) → IsAscending id_cmp key trusts → trust_of id trusts ≡ None → [] ≡ ids_of (filter (λ trust. same trust.id id) trusts)
none_with id trusts up none =
    ids_by (λ trust. same trust.id id) trusts [] up tt (λ trust stands passes. new_id id trusts trust none stands ((bytes_eq-Decides trust.id id).0 passes)) (λ other among. absurd among)

pub one_with : (id : Id) (trust : TrustRow) (trusts : List TrustRow) → IsAscending id_cmp key trusts → trust_of id trusts ≡ Some trust →
    trust.id ∷ [] ≡ ids_of (filter (λ t. same t.id id) trusts)
one_with id trust trusts up found = ids_by (λ t. same t.id id) trusts (trust.id ∷ []) up (tt, tt) each only
  where
    is_id : trust.id ≡ id
    is_id = id_found key id trusts trust found

    each : (t : TrustRow) → Among trusts t → same t.id id ≡ true → Among (trust.id ∷ []) t.id
    each t stands passes = inl (is_id ∙ sym ((bytes_eq-Decides t.id id).0 passes))

    only : (other : Id) → Among (trust.id ∷ []) other → WithId trusts (λ t. same t.id id) other
    only other (inl is) = record { trust = trust; stands = (found_among id_cmp key id trusts trust found).0; passes = (bytes_eq-Decides trust.id id).1 is_id; id_is = is }
    only other (inr none) = absurd none

-- a revocation of a token or a domain names none

none_pass : (trusts : List TrustRow) → [] ≡ ids_of (filter (λ trust. false) trusts)
none_pass [] = refl
none_pass (trust ∷ trusts) = none_pass trusts

pub none_named : (what : Revoke) (trusts : List TrustRow) → ((audit : List ℕ) × (what ≡ revoke.Audit audit)) ⊎ ((domain : Id) × (what ≡ revoke.Domain domain)) →
    [] ≡ ids_of (filter (names_trust what) trusts)
none_named what trusts (inl (audit, is)) = none_pass trusts ∙ ap (λ (w : Revoke). ids_of (filter (names_trust w) trusts)) (sym is)
none_named what trusts (inr (domain, is)) = none_pass trusts ∙ ap (λ (w : Revoke). ids_of (filter (names_trust w) trusts)) (sym is)
