-- That the greatest moments suffice to test a token.
use Rattle.std.proofs.Common.{◌≡◌, ℕ, ◌+◌, ◌<◌, ◌≤◌, Bool, true, false, ◌&&◌, ◌||◌, ◌⊎◌, inl, inr, nat_le, List, [], ◌∷◌, Option, Some, None, refl, sym, ap, ◌∙◌, subst, arith}
use Rattle.std.specs.List.{list_any}
use Rattle.std.specs.Ordering.{is_eq}
use Rattle.std.specs.Str.{bytes_eq}
use Rattle.std.proofs.lemmas.Bool.{leb-true, leb-false, le-leb, and_parts, and_from, and_right, or_cases}
use Rattle.std.proofs.lemmas.Slice.Eq.{bytes_eq-Decides}
use Rattle.std.proofs.Math.Bool.{or-false}
use Rattle.std.specs.Option.{option_map}
use Rattle.ks_base.specs.declared.events.Revoke.{Revoke}
use Rattle.ks_base.specs.declared.events.Revoke.TheVariants as revoke
use Rattle.ks_base.specs.declared.events.EventRow.{EventRow}
use Rattle.ks_base.specs.declared.events.Holder.{Holder}
use Rattle.ks_base.specs.Revocation.{has, names, matches, is_revoked, is_live, live, window}
use Rattle.ks_base.specs.Rows.{Id, same}
use Rattle.ks_base.specs.Tables.{id_cmp, Among, find_row}
use Rattle.ks_base.proofs.RowLemmas.{found_among, among_found, among_filter, filter_among, id_same}
use Rattle.ks_base.proofs.TruthLemmas.{equal_truths}
use Rattle.ks_base.proofs.AmongLemmas.{any_to, all_among, among_all}
use Rattle.ks_revoke.specs.Things.{thing_cmp, thing_of, things_of}
use Rattle.ks_revoke.specs.Marks.{IsGreatest, AreMarks, ends_then, ends_if}
use Rattle.ks_revoke.proofs.ThingLemmas.{thing_total, alike}
use Rattle.ks_revoke.proofs.LiveLemmas.{past_is}
use Rattle.ks_revoke.proofs.MarkLemmas.{IsUpper, unlike}

-- the thing, if there is one, is the one that an event names
abbrev named : Revoke → Option Revoke → Bool
named what None = false
named what (Some thing) = is_eq (thing_cmp what thing)

-- the event is of the thing, and ends the tokens that were issued then
abbrev ends_by : ℕ → Revoke → EventRow → Bool
ends_by issued thing event = nat_le issued event.moment && is_eq (thing_cmp event.what thing)

-- an event that passes, where one does
abbrev Passing : (EventRow → Bool) → List EventRow → Type 0
Passing test events = (event : EventRow) × Among events event × (test event ≡ true)

passing_by : (test : EventRow → Bool) (event : EventRow) (events : List EventRow) → (test event ≡ true) ⊎ (list_any test events ≡ true) →
    (list_any test events ≡ true → Passing test events) → Passing test (event ∷ events)
passing_by test event events (inl own) rest = (event, inl refl, own)
passing_by test event events (inr later) rest = let found = rest later in (found.0, inr found.1, found.2)

pub any_among : (test : EventRow → Bool) (events : List EventRow) → list_any test events ≡ true → Passing test events
any_among test [] some = cc
any_among test (event ∷ events) some = passing_by test event events (or_cases (test event) (list_any test events) some) (any_among test events)

-- the greatest event of a thing that one names
abbrev pub GreatestOf : Revoke → List EventRow → Type 0
GreatestOf thing events = (row : EventRow) × (row.what ≡ thing) × IsGreatest events row

abbrev pub Unnamed : Revoke → List EventRow → Type 0
Unnamed thing events = (event : EventRow) → Among events event → event.what ≡ thing → ⊥

-- the first event and the greatest of the others
greater : (thing : Revoke) (first : EventRow) (events : List EventRow) (b : Bool) (rest : GreatestOf thing events) → nat_le first.moment rest.0.moment ≡ b →
    first.what ≡ thing → GreatestOf thing (first ∷ events)
greater thing first events true (row, what, greatest) is named =
    (row, what, (inr greatest.0, ((λ same. leb-true first.moment row.moment is), greatest.1)))
greater thing first events false (row, what, greatest) is named =
    let above : row.moment < first.moment = leb-false first.moment row.moment is in (
      first,
      named,
      (
        inl refl,
        (
          (λ same. omega arith),
          among_all (IsUpper first) events
              (λ event among same. let below : event.moment ≤ row.moment = all_among (IsUpper row) events event greatest.1 among (same ∙ named ∙ sym what) in omega arith),
        ),
      ),
    )

named_by : (thing : Revoke) (first : EventRow) (events : List EventRow) (b : Bool) → is_eq (thing_cmp first.what thing) ≡ b →
    GreatestOf thing events ⊎ Unnamed thing events → GreatestOf thing (first ∷ events) ⊎ Unnamed thing (first ∷ events)
named_by thing first events true is (inl rest) =
    inl (greater thing first events (nat_le first.moment rest.0.moment) rest refl (alike first.what thing is))
named_by thing first events true is (inr none) =
    let named = alike first.what thing is in
    inl (first, named, (inl refl, ((λ same. omega arith), among_all (IsUpper first) events (λ event among same. absurd (none event among (same ∙ named))))))
named_by thing first events false is (inl (row, what, greatest)) =
    inl (row, what, (inr greatest.0, ((λ same. absurd (unlike first.what thing is (sym (same ∙ what)))), greatest.1)))
named_by thing first events false is (inr none) = inr (λ event among. by event among)
  where
    by : (event : EventRow) → Among (first ∷ events) event → event.what ≡ thing → ⊥
    by event (inl same) named = unlike first.what thing is (sym (ap (λ (x : EventRow). x.what) same ∙ named))
    by event (inr later) named = none event later named

pub greatest_or_none : (thing : Revoke) (events : List EventRow) → GreatestOf thing events ⊎ Unnamed thing events
greatest_or_none thing [] = inr (λ event among. absurd among)
greatest_or_none thing (event ∷ events) = named_by thing event events (is_eq (thing_cmp event.what thing)) refl (greatest_or_none thing events)

-- whether the row of a thing ends the tokens issued then
ends_from : (issued : ℕ) (thing : Revoke) (events marks : List EventRow) (found : Option EventRow) → AreMarks events marks →
    find_row thing_cmp thing_of thing marks ≡ found → ends_then issued found ≡ true → list_any (ends_by issued thing) events ≡ true
ends_from issued thing events marks None are is ends = cc
ends_from issued thing events marks (Some row) are is ends =
    let found = found_among thing_cmp thing_of thing marks row is in
    let greatest = (are.greatest row).0 found.0 in
    any_to (ends_by issued thing) events row greatest.0 (and_from (nat_le issued row.moment) (is_eq (thing_cmp row.what thing)) ends (ap is_eq found.1))

ends_at : (issued : ℕ) (thing : Revoke) (events marks : List EventRow) → AreMarks events marks → Passing (ends_by issued thing) events →
    GreatestOf thing events ⊎ Unnamed thing events → ends_then issued (find_row thing_cmp thing_of thing marks) ≡ true
ends_at issued thing events marks are (event, among, passes) (inl (row, what, greatest)) =
    let parts = and_parts (nat_le issued event.moment) (is_eq (thing_cmp event.what thing)) passes in
    let below : event.moment ≤ row.moment = all_among (IsUpper row) events event greatest.1 among (alike event.what thing parts.1 ∙ sym what) in
    let before : issued ≤ event.moment = leb-true issued event.moment parts.0 in
    let found : find_row thing_cmp thing_of thing marks ≡ Some row =
    subst (λ (x : Revoke). find_row thing_cmp thing_of x marks ≡ Some row) what (among_found thing_cmp thing_of thing_total marks row are.ascending ((are.greatest row).1 greatest)) in
    ap (ends_then issued) found ∙ le-leb issued row.moment (omega arith)
ends_at issued thing events marks are (event, among, passes) (inr none) =
    absurd (none event among (alike event.what thing (and_parts (nat_le issued event.moment) (is_eq (thing_cmp event.what thing)) passes).1))

pub ends_same : (issued : ℕ) (thing : Revoke) (events marks : List EventRow) → AreMarks events marks →
    ends_then issued (find_row thing_cmp thing_of thing marks) ≡ list_any (ends_by issued thing) events
ends_same issued thing events marks are =
    equal_truths (ends_then issued (find_row thing_cmp thing_of thing marks)) (list_any (ends_by issued thing) events)
    (ends_from issued thing events marks (find_row thing_cmp thing_of thing marks) are refl)
    (λ some. ends_at issued thing events marks are (any_among (ends_by issued thing) events some) (greatest_or_none thing events))

-- tests of several things
any_same : {X : Type 0} (p q : X → Bool) → ((x : X) → p x ≡ q x) → (xs : List X) → list_any p xs ≡ list_any q xs
any_same p q same [] = refl
any_same p q same (x ∷ xs) = rw (same x) (ap (λ (b : Bool). q x || b) (any_same p q same xs))

any_never : {X : Type 0} (xs : List X) → list_any (λ (x : X). false) xs ≡ false
any_never [] = refl
any_never (x ∷ xs) = any_never xs

or_mixed : (a b c d : Bool) → ((a || b) || (c || d)) ≡ ((a || c) || (b || d))
or_mixed true b c d = refl
or_mixed false true true d = refl
or_mixed false true false d = refl
or_mixed false false c d = refl

any_either : {X : Type 0} (p q : X → Bool) (xs : List X) → list_any (λ x. p x || q x) xs ≡ (list_any p xs || list_any q xs)
any_either p q [] = refl
any_either p q (x ∷ xs) = ap (λ (b : Bool). (p x || q x) || b) (any_either p q xs) ∙ or_mixed (p x) (q x) (list_any p xs) (list_any q xs)

any_swapped : {X Y : Type 0} (test : X → Y → Bool) (xs : List X) (ys : List Y) → list_any (λ x. list_any (test x) ys) xs ≡ list_any (λ y. list_any (λ x. test x y) xs) ys
any_swapped test [] ys = sym (any_never ys)
any_swapped test (x ∷ xs) ys =
    ap (λ (b : Bool). list_any (test x) ys || b) (any_swapped test xs ys) ∙ sym (any_either (test x) (λ y. list_any (λ z. test z y) xs) ys)

any_and : {X : Type 0} (b : Bool) (test : X → Bool) (xs : List X) → list_any (λ x. b && test x) xs ≡ (b && list_any test xs)
any_and true test xs = refl
any_and false test xs = any_never xs

-- ids are the same in either order
same_back : (a b : Id) → is_eq (id_cmp a b) ≡ same b a
same_back a b =
    equal_truths (is_eq (id_cmp a b)) (same b a) (λ e. (bytes_eq-Decides b a).1 (sym ((bytes_eq-Decides a b).0 (sym (id_same a b) ∙ e))))
    (λ e. id_same a b ∙ (bytes_eq-Decides a b).1 (sym ((bytes_eq-Decides b a).0 e)))

is_own : (id : Id) (thing : Id → Revoke) (o : Option Id) → ((other : Id) → is_eq (thing_cmp (thing id) (thing other)) ≡ same other id) → named (thing id) (option_map thing o) ≡ has o id
is_own id thing None own = refl
is_own id thing (Some other) own = own other

is_foreign : (what : Revoke) (thing : Id → Revoke) (o : Option Id) → ((other : Id) → is_eq (thing_cmp what (thing other)) ≡ false) → named what (option_map thing o) ≡ false
is_foreign what thing None other = refl
is_foreign what thing (Some id) other = other id

or_two : (a b : Bool) → (a || (b || false)) ≡ (a || b)
or_two true b = refl
or_two false b = or-false b

or_three : (a b c : Bool) → (a || (b || (c || false))) ≡ (a || (b || c))
or_three true b c = refl
or_three false b c = or_two b c

or_eight : {a b c d e f g h a' b' c' d' e' f' g' h' : Bool} → a ≡ a' → b ≡ b' → c ≡ c' → d ≡ d' → e ≡ e' → f ≡ f' → g ≡ g' → h ≡ h' →
    (a || (b || (c || (d || (e || (f || (g || (h || false)))))))) ≡ (a' || (b' || (c' || (d' || (e' || (f' || (g' || (h' || false))))))))
or_eight p q r s t u v w = cc

stays : false ≡ false
stays = refl

all_named : (what : Revoke) (holder : Holder) → list_any (named what) (things_of holder) ≡ names what holder
all_named (revoke.Audit audit) holder =
    or_eight (id_same audit holder.audit) stays (is_foreign (revoke.Audit audit) revoke.User holder.trustor (λ other. refl))
    (is_foreign (revoke.Audit audit) revoke.User holder.trustee (λ other. refl)) (is_foreign (revoke.Audit audit) revoke.Project holder.project (λ other. refl))
    (is_foreign (revoke.Audit audit) revoke.Trust holder.trust (λ other. refl)) (is_foreign (revoke.Audit audit) revoke.Domain holder.user_domain (λ other. refl))
    (is_foreign (revoke.Audit audit) revoke.Domain holder.scope_domain (λ other. refl)) ∙ or-false (bytes_eq audit holder.audit)
all_named (revoke.User id) holder =
    or_eight stays (same_back id holder.user) (is_own id revoke.User holder.trustor (same_back id))
    (is_own id revoke.User holder.trustee (same_back id)) (is_foreign (revoke.User id) revoke.Project holder.project (λ other. refl))
    (is_foreign (revoke.User id) revoke.Trust holder.trust (λ other. refl)) (is_foreign (revoke.User id) revoke.Domain holder.user_domain (λ other. refl))
    (is_foreign (revoke.User id) revoke.Domain holder.scope_domain (λ other. refl)) ∙ or_three (same holder.user id) (has holder.trustor id) (has holder.trustee id)
all_named (revoke.Project id) holder =
    or_eight stays stays (is_foreign (revoke.Project id) revoke.User holder.trustor (λ other. refl))
    (is_foreign (revoke.Project id) revoke.User holder.trustee (λ other. refl)) (is_own id revoke.Project holder.project (same_back id))
    (is_foreign (revoke.Project id) revoke.Trust holder.trust (λ other. refl)) (is_foreign (revoke.Project id) revoke.Domain holder.user_domain (λ other. refl))
    (is_foreign (revoke.Project id) revoke.Domain holder.scope_domain (λ other. refl)) ∙ or-false (has holder.project id)
all_named (revoke.Domain id) holder =
    or_eight stays stays (is_foreign (revoke.Domain id) revoke.User holder.trustor (λ other. refl))
    (is_foreign (revoke.Domain id) revoke.User holder.trustee (λ other. refl)) (is_foreign (revoke.Domain id) revoke.Project holder.project (λ other. refl))
    (is_foreign (revoke.Domain id) revoke.Trust holder.trust (λ other. refl)) (is_own id revoke.Domain holder.user_domain (same_back id))
    (is_own id revoke.Domain holder.scope_domain (same_back id)) ∙ or_two (has holder.user_domain id) (has holder.scope_domain id)
all_named (revoke.Trust id) holder =
    or_eight stays stays (is_foreign (revoke.Trust id) revoke.User holder.trustor (λ other. refl))
    (is_foreign (revoke.Trust id) revoke.User holder.trustee (λ other. refl)) (is_foreign (revoke.Trust id) revoke.Project holder.project (λ other. refl))
    (is_own id revoke.Trust holder.trust (same_back id)) (is_foreign (revoke.Trust id) revoke.Domain holder.user_domain (λ other. refl))
    (is_foreign (revoke.Trust id) revoke.Domain holder.scope_domain (λ other. refl)) ∙ or-false (has holder.trust id)

-- the rows of the holder's things end its token exactly where an event does
ends_any : (issued : ℕ) (events marks : List EventRow) → AreMarks events marks → (thing : Option Revoke) →
    ends_if issued marks thing ≡ list_any (λ event. nat_le issued event.moment && named event.what thing) events
ends_any issued events marks are None = sym (any_past events)
  where
    any_past : (others : List EventRow) → list_any (λ event. nat_le issued event.moment && false) others ≡ false
    any_past others = any_same (λ event. nat_le issued event.moment && false) (λ event. false) (λ event. and_right (nat_le issued event.moment) false refl) others ∙ any_never others
ends_any issued events marks are (Some thing) = ends_same issued thing events marks are

pub tested : (issued : ℕ) (holder : Holder) (events marks : List EventRow) → AreMarks events marks →
    list_any (ends_if issued marks) (things_of holder) ≡ is_revoked events holder issued
tested issued holder events marks are =
    any_same (ends_if issued marks) (λ thing. list_any (λ event. nat_le issued event.moment && named event.what thing) events) (ends_any issued events marks are) (things_of holder)
    ∙ any_swapped (λ thing event. nat_le issued event.moment && named event.what thing) (things_of holder) events
    ∙ any_same (λ event. list_any (λ thing. nat_le issued event.moment && named event.what thing) (things_of holder)) (λ event. matches event holder issued)
    (λ event. any_and (nat_le issued event.moment) (named event.what) (things_of holder) ∙ ap (λ (b : Bool). nat_le issued event.moment && b) (all_named event.what holder)) events

-- the live events suffice for each token that may still be asked for
live_from : (life high : ℕ) (events : List EventRow) (holder : Holder) (issued : ℕ) → Passing (λ event. matches event holder issued) (live life high events) →
    is_revoked events holder issued ≡ true
live_from life high events holder issued (event, among, passes) =
    any_to (λ event. matches event holder issued) events event (among_filter (is_live life high) events event among).0 passes

live_at : (life high : ℕ) (events : List EventRow) (holder : Holder) (issued : ℕ) (event : EventRow) (b : Bool) → is_live life high event ≡ b →
    high < issued + life + 172800 → Among events event → matches event holder issued ≡ true → is_revoked (live life high events) holder issued ≡ true
live_at life high events holder issued event true is within among passes =
    any_to (λ event. matches event holder issued) (live life high events) event (filter_among (is_live life high) events event among is) passes
live_at life high events holder issued event false is within among passes =
    let before : issued ≤ event.moment = leb-true issued event.moment (and_parts (nat_le issued event.moment) (names event.what holder) passes).0 in
    absurd (omega (arith, past_is life high event is))

pub live_suffice : (life high : ℕ) (events : List EventRow) (holder : Holder) (issued : ℕ) → high < issued + life + window →
    is_revoked (live life high events) holder issued ≡ is_revoked events holder issued
live_suffice life high events holder issued within =
    equal_truths (is_revoked (live life high events) holder issued) (is_revoked events holder issued)
    (λ some. live_from life high events holder issued (any_among (λ event. matches event holder issued) (live life high events) some))
    (λ some. let found = any_among (λ event. matches event holder issued) events some in
    live_at life high events holder issued found.0 (is_live life high found.0) refl within found.1 found.2)
