-- Changes that keep secrets and their owners the same, and whose codes fit.
use Rattle.std.proofs.Common.{◌≡◌, ◌⊎◌, inl, inr, Bool, true, false, not, cond, ◌&&◌, List, [], ◌∷◌, Option, Some, None, refl, sym, ap, subst, ◌∙◌}
use Rattle.std.specs.List.{filter, find, list_any}
use Rattle.std.specs.Option.{option_map_or}
use Rattle.std.specs.Ordering.{is_eq}
use Rattle.std.proofs.lemmas.Bool.{and_from, and_parts}
use Rattle.std.proofs.lemmas.Cmp.{nat_list_cmp_total, tied_itself}
use Rattle.ks_base.specs.declared.factors.SecretRow.{SecretRow}
use Rattle.ks_base.specs.Factors.{FactorState, add_secret_fault, is_secret_of, secret_of}
use Rattle.ks_base.specs.OrderLaws.{id_exact}
use Rattle.ks_base.specs.Refusals.{fault_if, first_of}
use Rattle.ks_base.specs.Rows.{Id, same}
use Rattle.ks_base.specs.Tables.{id_cmp, Among, IsAscending, drop_row, find_row, has_key, put_row}
use Rattle.ks_base.proofs.AmongLemmas.{any_from, any_to}
use Rattle.ks_base.proofs.LinkLemmas.{kept_beside}
use Rattle.ks_base.proofs.OptionLemmas.{none_is}
use Rattle.ks_base.proofs.RowLemmas.{among_drop, among_filter, among_found, among_put, among_put_other, eq_is, filter_among, found_among, id_found, id_same, none_among, put_among, same_row}
use Rattle.ks_base.proofs.TruthLemmas.{equal_truths, not_both, not_if}
use Rattle.ks_totp.specs.declared.owners.OwnerRow.{OwnerRow}
use Rattle.ks_totp.specs.Owners.{AreOwners, owner_cmp, owner_exact, owner_of, owner_total}
use Rattle.ks_base.proofs.RefusalLemmas.{unless_fault}

abbrev key : SecretRow → Id
key row = row.id

-- the lists with a secret more, and without one

abbrev pub secrets_with : SecretRow → List SecretRow → List SecretRow
secrets_with row secrets = put_row id_cmp key row secrets

abbrev pub owners_with : OwnerRow → List OwnerRow → List OwnerRow
owners_with owner owners = put_row owner_cmp (λ o. o) owner owners

abbrev pub secrets_without : Id → List SecretRow → List SecretRow
secrets_without id secrets = drop_row id_cmp key id secrets

abbrev pub owners_without : OwnerRow → List OwnerRow → List OwnerRow
owners_without owner owners = drop_row owner_cmp (λ o. o) owner owners

-- what is not found is not there

new_among : (id : Id) (secrets : List SecretRow) (x : SecretRow) → secret_of id secrets ≡ None → Among secrets x → is_eq (id_cmp x.id id) ≡ false
unfolding find_row
new_among id secrets x none among = none_among (has_key id_cmp key id) secrets x none among

-- ids and owners that are the same, or not

same_id : (a b : Id) → a ≡ b → is_eq (id_cmp a b) ≡ true
same_id a b is = ap (λ id. is_eq (id_cmp id b)) is ∙ ap is_eq (tied_itself nat_list_cmp_total b)

same_owner : (a b : OwnerRow) → a ≡ b → is_eq (owner_cmp a b) ≡ true
same_owner a b is = ap (λ owner. is_eq (owner_cmp owner b)) is ∙ ap is_eq (tied_itself owner_total b)

-- changes

pub owners_along : (secrets more : List SecretRow) (owners others : List OwnerRow) → more ≡ secrets → others ≡ owners → AreOwners secrets owners → AreOwners more others
owners_along secrets more owners others is also are = subst (λ l. AreOwners l others) (sym is) (subst (AreOwners secrets) (sym also) are)

pub owners_put : (row : SecretRow) (secrets : List SecretRow) (owners : List OwnerRow) → secret_of row.id secrets ≡ None → AreOwners secrets owners →
    AreOwners (secrets_with row secrets) (owners_with (owner_of row) owners)
owners_put row secrets owners new are = record { forth = forth; back = back }
  where
    onto : (x : SecretRow) → (row ≡ x) ⊎ Among secrets x → Among (owners_with (owner_of row) owners) (owner_of x)
    onto x (inl is) = subst (λ y. Among (owners_with (owner_of row) owners) (owner_of y)) is (put_among owner_cmp (λ o. o) (owner_of row) owners)
    onto x (inr among) = kept_beside owner_cmp owner_exact (owner_of row) owners (owner_of x) (are.forth x among)

    forth : (x : SecretRow) → Among (secrets_with row secrets) x → Among (owners_with (owner_of row) owners) (owner_of x)
    forth x among = onto x (among_put id_cmp key row secrets x among)

    from : (owner : OwnerRow) → (owner_of row ≡ owner) ⊎ Among owners owner → (x : SecretRow) × Among (secrets_with row secrets) x × (owner_of x ≡ owner)
    from owner (inl is) = (row, put_among id_cmp key row secrets, is)
    from owner (inr among) =
        let found = are.back owner among in
        (found.0, among_put_other id_cmp key row secrets found.0 (new_among row.id secrets found.0 new found.1) found.1, found.2)

    back : (owner : OwnerRow) → Among (owners_with (owner_of row) owners) owner → (x : SecretRow) × Among (secrets_with row secrets) x × (owner_of x ≡ owner)
    back owner among = from owner (among_put owner_cmp (λ o. o) (owner_of row) owners owner among)

owner_left : (owner : OwnerRow) (owners : List OwnerRow) (other : OwnerRow) → Among owners other → (other ≡ owner → ⊥) → Among (owners_without owner owners) other
unfolding drop_row
owner_left owner owners other among apart =
    filter_among (λ o. not (has_key owner_cmp (λ p. p) owner o)) owners other among
    (not_if (is_eq (owner_cmp other owner)) (λ is. apart (owner_exact other owner (eq_is (owner_cmp other owner) is))))

secret_left : (id : Id) (secrets : List SecretRow) (x : SecretRow) → Among secrets x → (x.id ≡ id → ⊥) → Among (secrets_without id secrets) x
unfolding drop_row
secret_left id secrets x among apart =
    filter_among (λ row. not (has_key id_cmp key id row)) secrets x among
    (not_if (is_eq (id_cmp x.id id)) (λ is. apart (id_exact x.id id (eq_is (id_cmp x.id id) is))))

-- the owner of a secret that found no room goes again
pub owners_undone : (row : SecretRow) (secrets : List SecretRow) (owners : List OwnerRow) → secret_of row.id secrets ≡ None → AreOwners secrets owners →
    AreOwners secrets (owners_without (owner_of row) (owners_with (owner_of row) owners))
owners_undone row secrets owners new are = record { forth = forth; back = back }
  where
    apart : (x : SecretRow) → Among secrets x → owner_of x ≡ owner_of row → ⊥
    apart x among is =
        let found = same_id x.id row.id (ap (λ (o : OwnerRow). o.secret) is) in
        let none = new_among row.id secrets x new among in
        cc

    forth : (x : SecretRow) → Among secrets x → Among (owners_without (owner_of row) (owners_with (owner_of row) owners)) (owner_of x)
    forth x among =
        owner_left (owner_of row) (owners_with (owner_of row) owners) (owner_of x)
        (kept_beside owner_cmp owner_exact (owner_of row) owners (owner_of x) (are.forth x among)) (apart x among)

    from : (owner : OwnerRow) → not (has_key owner_cmp (λ o. o) (owner_of row) owner) ≡ true → (owner_of row ≡ owner) ⊎ Among owners owner →
        (x : SecretRow) × Among secrets x × (owner_of x ≡ owner)
    from owner other (inl is) = absurd (not_both (is_eq (owner_cmp owner (owner_of row))) other (same_owner owner (owner_of row) (sym is)))
    from owner other (inr among) = are.back owner among

    back : (owner : OwnerRow) → Among (owners_without (owner_of row) (owners_with (owner_of row) owners)) owner →
        (x : SecretRow) × Among secrets x × (owner_of x ≡ owner)
    back owner among =
        let both = among_drop owner_cmp (λ o. o) (owner_of row) (owners_with (owner_of row) owners) owner among in
        from owner both.1 (among_put owner_cmp (λ o. o) (owner_of row) owners owner both.0)

pub owners_drop : (id : Id) (row : SecretRow) (secrets : List SecretRow) (owners : List OwnerRow) → IsAscending id_cmp key secrets → secret_of id secrets ≡ Some row →
    AreOwners secrets owners → AreOwners (secrets_without id secrets) (owners_without (owner_of row) owners)
owners_drop id row secrets owners up found are = record { forth = forth; back = back }
  where
    is_id : row.id ≡ id
    is_id = id_found key id secrets row found

    forth : (x : SecretRow) → Among (secrets_without id secrets) x → Among (owners_without (owner_of row) owners) (owner_of x)
    forth x among =
        let both = among_drop id_cmp key id secrets x among in
        owner_left (owner_of row) owners (owner_of x) (are.forth x both.0)
        (λ is. not_both (is_eq (id_cmp x.id id)) both.1 (same_id x.id id (ap (λ (o : OwnerRow). o.secret) is ∙ is_id)))

    back : (owner : OwnerRow) → Among (owners_without (owner_of row) owners) owner → (x : SecretRow) × Among (secrets_without id secrets) x × (owner_of x ≡ owner)
    back owner among =
        let both = among_drop owner_cmp (λ o. o) (owner_of row) owners owner among in
        let one = are.back owner both.0 in
        let row_stands = (found_among id_cmp key id secrets row found).0 in (
          one.0,
          secret_left id secrets one.0 one.1
              (λ is.
              let same = same_row id_cmp key nat_list_cmp_total secrets one.0 row up one.1 row_stands (is ∙ sym is_id) in
              not_both (is_eq (owner_cmp owner (owner_of row))) both.1 (same_owner owner (owner_of row) (sym one.2 ∙ ap owner_of same))),
          one.2,
        )

pub owners_kept : (passes : Id → Bool) (secrets : List SecretRow) (owners : List OwnerRow) → AreOwners secrets owners →
    AreOwners (filter (λ row. passes row.user) secrets) (filter (λ owner. passes owner.user) owners)
owners_kept passes secrets owners are = record { forth = forth; back = back }
  where
    forth : (x : SecretRow) → Among (filter (λ row. passes row.user) secrets) x → Among (filter (λ owner. passes owner.user) owners) (owner_of x)
    forth x among =
        let both = among_filter (λ (row : SecretRow). passes row.user) secrets x among in
        filter_among (λ (owner : OwnerRow). passes owner.user) owners (owner_of x) (are.forth x both.0) both.1

    back : (owner : OwnerRow) → Among (filter (λ owner. passes owner.user) owners) owner →
        (x : SecretRow) × Among (filter (λ row. passes row.user) secrets) x × (owner_of x ≡ owner)
    back owner among =
        let both = among_filter (λ (owner : OwnerRow). passes owner.user) owners owner among in
        let one = are.back owner both.0 in (
          one.0,
          filter_among (λ (row : SecretRow). passes row.user) secrets one.0 one.1 (ap (λ (o : OwnerRow). passes o.user) one.2 ∙ both.1),
          one.2,
        )

-- codes

mapped_true : {X : Type 0} (test : X → Bool) (o : Option X) → option_map_or test o false ≡ true → (x : X) × (o ≡ Some x) × (test x ≡ true)
mapped_true test None is = cc
mapped_true test (Some x) is = (x, refl, is)

-- some secret of the user passes exactly if one that is found by its owner does
pub any_by_owner : (test : SecretRow → Bool) (user : Id) (secrets : List SecretRow) (owners : List OwnerRow) → IsAscending id_cmp key secrets → AreOwners secrets owners →
    list_any (λ owner. option_map_or test (secret_of owner.secret secrets) false) (filter (λ owner. is_eq (id_cmp owner.user user)) owners)
    ≡ list_any (λ row. is_secret_of user row && test row) secrets
any_by_owner test user secrets owners up are =
    equal_truths (list_any (λ owner. option_map_or test (secret_of owner.secret secrets) false) (filter (λ owner. is_eq (id_cmp owner.user user)) owners))
    (list_any (λ row. is_secret_of user row && test row) secrets) forth back
  where
    forth : list_any (λ owner. option_map_or test (secret_of owner.secret secrets) false) (filter (λ owner. is_eq (id_cmp owner.user user)) owners) ≡ true →
        list_any (λ row. is_secret_of user row && test row) secrets ≡ true
    forth any =
        let one = any_from (λ owner. option_map_or test (secret_of owner.secret secrets) false) (filter (λ owner. is_eq (id_cmp owner.user user)) owners) any in
        let both = among_filter (λ owner. is_eq (id_cmp owner.user user)) owners one.0 one.1 in
        let held = mapped_true test (secret_of one.0.secret secrets) one.2 in
        let there = found_among id_cmp key one.0.secret secrets held.0 held.1 in
        let whose = are.back one.0 both.0 in
        let is = same_row id_cmp key nat_list_cmp_total secrets whose.0 held.0 up whose.1 there.0
        (ap (λ (o : OwnerRow). o.secret) whose.2 ∙ sym (id_found key one.0.secret secrets held.0 held.1)) in
        let user_is : held.0.user ≡ one.0.user = ap (λ (row : SecretRow). row.user) (sym is) ∙ ap (λ (o : OwnerRow). o.user) whose.2 in
        let of : same held.0.user user ≡ true = sym (id_same held.0.user user) ∙ ap (λ id. is_eq (id_cmp id user)) user_is ∙ both.1 in
        any_to (λ row. is_secret_of user row && test row) secrets held.0 there.0 (and_from (same held.0.user user) (test held.0) of held.2)

    back : list_any (λ row. is_secret_of user row && test row) secrets ≡ true →
        list_any (λ owner. option_map_or test (secret_of owner.secret secrets) false) (filter (λ owner. is_eq (id_cmp owner.user user)) owners) ≡ true
    back any =
        let one = any_from (λ row. is_secret_of user row && test row) secrets any in
        let parts = and_parts (is_secret_of user one.0) (test one.0) one.2 in
        let found = among_found id_cmp key nat_list_cmp_total secrets one.0 up one.1 in
        any_to (λ owner. option_map_or test (secret_of owner.secret secrets) false) (filter (λ owner. is_eq (id_cmp owner.user user)) owners) (owner_of one.0)
        (filter_among (λ owner. is_eq (id_cmp owner.user user)) owners (owner_of one.0) (are.forth one.0 one.1) (id_same one.0.user user ∙ parts.0))
        (ap (λ o. option_map_or test o false) found ∙ parts.1)

-- a secret that is not refused has a new id

second_none : {F : Type 0} (a b : Option F) → first_of (a ∷ b ∷ []) ≡ None → b ≡ None
second_none None None none = refl
second_none None (Some fault) none = cc
second_none (Some fault) b none = cc

pub new_secret : (state : FactorState) (row : SecretRow) → add_secret_fault state row ≡ None → secret_of row.id state.secrets ≡ None
unfolding add_secret_fault
new_secret state row none = none_is (secret_of row.id state.secrets) (unless_fault _ _ (second_none _ _ none))
