-- What was told is kept, and who goes on from it has it.
use Rattle.std.proofs.Common.{◌≡◌, ℕ, zero, suc, ◌+◌, ◌≤◌, inl, inr, List, [], ◌∷◌, length, take, Option, None, refl, sym, ap, subst, ◌∙◌, arith}
use Rattle.std.proofs.lemmas.List.{length-take-le}
use Rattle.ks_entries.specs.Changes.{IsEntry, entry_code}
use Rattle.ks_keep.specs.Books.{AreKept, HasHeader, IsBookOf, Stand, StandsAt}
use Rattle.ks_keeper.specs.Keeper.{Keeping, Kept}
use Rattle.ks_machine.specs.declared.call.Call.{Call}
use Rattle.ks_machine.specs.declared.change.Entry.{Entry}
use Rattle.ks_machine.specs.Fronts.{Front}
use Rattle.ks_server.specs.Exchanges.{Asked, calls, front_after}
use Rattle.ks_server.specs.Sessions.{AreKept as AreTold}
use Rattle.ks_setup.specs.Headers.{GivesOpening}
use Rattle.ks_spelling.proofs.CodeLemmas.{one_value}
use Rattle.ks_top.specs.Identities.{Begins}
use Rattle.ks_top.specs.Laws.{RestartForgetsNothing, ToldIsKept}
use Rattle.ks_top.specs.World.{World}

-- entries that stand

-- the first of them stand too
stand_first : (at : ℕ → Option (List ℕ)) (number n m : ℕ) (entries : List Entry) → n ≤ m → Stand at number (take m entries) → Stand at number (take n entries)
stand_first at number zero m entries le stand = tt
stand_first at number (suc n) zero entries le stand = absurd (omega arith)
stand_first at number (suc n) (suc m) [] le stand = tt
stand_first at number (suc n) (suc m) (entry ∷ entries) le stand = (stand.0, stand_first at (suc number) n m entries (omega arith) stand.1)

none_here : (at : ℕ → Option (List ℕ)) (number : ℕ) (entry : Entry) → StandsAt at number entry → at number ≡ None → ⊥
none_here at number entry stands none = cc (sym none ∙ stands.1)

-- two lists of entries that stand from one number on, behind each of which none stands, are the same
same_entries : (at : ℕ → Option (List ℕ)) (number : ℕ) (xs ys : List Entry) → Stand at number xs → at (number + length xs) ≡ None
    → Stand at number ys → at (number + length ys) ≡ None → xs ≡ ys
same_entries at number [] [] stand none also none_too = refl
same_entries at number [] (y ∷ ys) stand none also none_too = absurd (none_here at number y also.0 (ap at (omega arith) ∙ none))
same_entries at number (x ∷ xs) [] stand none also none_too = absurd (none_here at number x stand.0 (ap at (omega arith) ∙ none_too))
same_entries at number (x ∷ xs) (y ∷ ys) stand none also none_too =
    let bytes : stand.0.0 ≡ also.0.0 = cc (sym stand.0.1 ∙ also.0.1) in
    let first : x ≡ y = one_value entry_code also.0.0 x y (subst (λ b. IsEntry b x) bytes stand.0.2) also.0.2 in
    let behind = same_entries at (suc number) xs ys stand.1 (ap at (omega arith) ∙ none) also.1 (ap at (omega arith) ∙ none_too) in
    λ i. first i ∷ behind i

-- the entries that a keeper holds are the first changes of the front that it is a book of
kept_first : (kept : Kept) (f : Front) (entries : List Entry) (book : IsBookOf kept f) → AreKept kept.entries entries → entries ≡ take book.count f.changes
kept_first kept f entries book are =
    let size = length-take-le book.count f.changes book.most in
    same_entries kept.entries 0 entries (take book.count f.changes) are.stand (ap kept.entries (omega arith) ∙ are.end) book.stand
    (ap kept.entries (omega (arith, size)) ∙ book.none book.count (omega arith))

-- what was told

told_changes : (kept : ℕ) (asked : Asked) (call : Call) (front : Front) → asked ≡ calls call → AreTold kept asked front → length front.changes ≤ kept
told_changes kept asked call front is told = subst (λ (a : Asked). AreTold kept a front) is told

pub told_is_kept : (Link Seat : Type 0) {K : Type 0} (keeping : Keeping K) → ToldIsKept Link Seat keeping
told_is_kept Link Seat {K} keeping view stream what old new f state run x call asked told whole =
    let book : IsBookOf (keeping.kept new.keeper) run.journal =
    subst (λ (k : K). IsBookOf (keeping.kept k) run.journal) (sym run.keeper) (run.stands.book (subst keeping.whole run.keeper whole)) in
    let few = told_changes run.journal.kept x.asked call (front_after run.journal x) asked told.kept in
    stand_first (keeping.kept new.keeper).entries 0 (length (front_after run.journal x).changes) book.count run.journal.changes (let least = book.least in omega (arith, few, least)) book.stand

-- a restart

header_there : (kept : Kept) (f : Front) → IsBookOf kept f → kept.header ≡ None → ⊥
header_there kept f book none = cc (sym none ∙ book.header.1)

-- what a restart has of the journal of which a keeper is a book
abbrev Restarted : (kept : Kept) (journal : Front) → IsBookOf kept journal → Front → Type 0
Restarted kept journal book first = (first.changes ≡ take book.count journal.changes) × HasHeader kept first.opening

went_on : {Link Seat K : Type 0} (keeping : Keeping K) (old new : World Link Seat K) (desk : _) (first journal : Front) (left : K) (book : IsBookOf (keeping.kept left) journal)
    → keeping.kept old.keeper ≡ keeping.kept left → keeping.whole new.keeper → Begins keeping old new desk first → Restarted (keeping.kept left) journal book first
went_on keeping old new desk first journal left book same whole (inl began) =
    absurd (header_there (keeping.kept left) journal book (sym (ap (λ (k : Kept). k.header) same) ∙ began.no_header whole))
went_on keeping old new desk first journal left book same whole (inr on) =
    let there = on.given.told whole in
    let opening : on.opening ≡ first.opening = sym (ap (λ (f : Front). f.opening) on.is_first) in (
      ap (λ (f : Front). f.changes) on.is_first ∙ kept_first (keeping.kept left) journal on.entries book (subst (λ (k : Kept). AreKept k.entries on.entries) same (on.all whole)),
      (there.0, sym (ap (λ (k : Kept). k.header) same) ∙ there.1, (on.header, there.2, subst (GivesOpening on.header) opening on.gives)),
    )

pub restart_forgets_nothing : (Link Seat : Type 0) {K : Type 0} (keeping : Keeping K) → RestartForgetsNothing Link Seat keeping
restart_forgets_nothing Link Seat {K} keeping view stream what what_too old new old_too new_too f f_too state state_too one next whole whole_too same =
    let book : IsBookOf (keeping.kept new.keeper) one.journal =
    subst (λ (k : K). IsBookOf (keeping.kept k) one.journal) (sym one.keeper) (one.stands.book (subst keeping.whole one.keeper whole)) in
    let on = went_on keeping old_too new_too next.desk next.first one.journal new.keeper book same whole_too next.begins in
    (book.count, book.least, book.most, on.0, book.header, on.1)
