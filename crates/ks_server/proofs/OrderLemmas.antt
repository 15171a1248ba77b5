-- What is read off a journal is read off each later one, and stretches of exchanges compose.
use Rattle.std.proofs.Common.{◌≡◌, ℕ, ◌≤◌, Bool, true, false, List, [], ◌∷◌, ◌++◌, length, take, refl, sym, ap, subst, ◌∙◌, arith, append_assoc, append-nil, length-append}
use Rattle.std.proofs.lemmas.List.{take-append-le}
use Rattle.std.specs.List.{AllByRecursion}
use Rattle.ks_base.specs.declared.receipt.Receipt.{Receipt}
use Rattle.ks_machine.specs.Fronts.{Front, ◌⊑◌}
use Rattle.ks_machine.proofs.FrontLemmas.{calls_go_on, reflexive, transitive}
use Rattle.ks_server.specs.Exchanges.{Asked, calls, refused, Exchange, bare, change_in, change_by, cut_at, front_after, left_by, made}
use Rattle.ks_server.specs.Orders.{AreBy, Goes, GoesAlone, HasPlace, IsFrom}
use Rattle.ks_service.specs.Called.{numbered}

-- cuts

take_kept : (f g : Front) → f ⊑ g → (count : ℕ) → count ≤ length f.changes → take count g.changes ≡ take count f.changes
take_kept f g on count within = ap (λ l. take count l) on.changes ∙ take-append-le count f.changes on.later within

-- the front that a receipt names in a journal it names in each later one
pub cut_kept : (f g : Front) → f ⊑ g → (receipt : Receipt) → receipt.changes ≤ length f.changes → cut_at g receipt ≡ cut_at f receipt
cut_kept f g on receipt within =
    let opening = on.opening in
    let changes = take_kept f g on receipt.changes within in
    sym (λ i. record { opening = opening i; changes = (sym changes) i; high = receipt.moment; kept = 0 })

pub bare_later : (f g : Front) → f ⊑ g → bare f ⊑ bare g
bare_later f g on = record { opening = on.opening; later = on.later; changes = on.changes; high = on.high; moments = on.moments; kept = omega arith }

pub bare_before : (f : Front) → bare f ⊑ f
bare_before f = record { opening = refl; later = []; changes = sym (append-nil f.changes); high = omega arith; moments = tt; kept = omega arith }

-- all receipts name numbers of changes that the journal has

abbrev pub AreWithin : Front → List Exchange → Type 0
AreWithin journal xs = AllByRecursion (λ (x : Exchange). x.receipt.changes ≤ length journal.changes) xs

pub within_of : (journal seen now : Front) (xs : List Exchange) → Goes journal seen xs now → AreWithin journal xs
within_of journal seen now [] goes = tt
within_of journal seen now (x ∷ xs) goes = (goes.1.within, within_of journal (front_after journal x) now xs goes.2)

-- lists of changes only grow
longer : (f g : Front) → f ⊑ g → (n : ℕ) → n ≤ length f.changes → n ≤ length g.changes
longer f g on n le = let more = ap length on.changes ∙ length-append f.changes on.later in omega (arith, more)

-- fronts that exchanges leave

pub after_kept : (f g : Front) → f ⊑ g → (x : Exchange) → x.receipt.changes ≤ length f.changes → front_after g x ≡ front_after f x
after_kept f g on x within = ap (λ front. left_by front x.asked x.receipt.memory) (cut_kept f g on x.receipt within)

pub left_later : (front : Front) (asked : Asked) (memory : Bool) → front ⊑ left_by front asked memory
left_later front (calls call) false = calls_go_on front call
left_later front (calls call) true = reflexive front
left_later front (refused why) memory = reflexive front

pub from_later : (asked : Asked) (seen front : Front) → IsFrom asked seen front → seen ⊑ front
from_later (calls call) seen front on = on
from_later (refused why) seen front same = subst (λ f. seen ⊑ f) (sym same) (reflexive seen)

-- the front after an exchange goes on from what was seen before it
pub next_later : (journal seen : Front) (x : Exchange) → IsFrom x.asked seen (cut_at journal x.receipt) → seen ⊑ front_after journal x
next_later journal seen x from =
    transitive seen (cut_at journal x.receipt) (front_after journal x)
    (from_later x.asked seen (cut_at journal x.receipt) from)
    (left_later (cut_at journal x.receipt) x.asked x.receipt.memory)

pub chain_to : (journal seen now : Front) (xs : List Exchange) → Goes journal seen xs now → seen ⊑ now
chain_to journal seen now [] same = subst (λ f. seen ⊑ f) same (reflexive seen)
chain_to journal seen now (x ∷ xs) goes =
    transitive seen (front_after journal x) now (next_later journal seen x goes.0) (chain_to journal (front_after journal x) now xs goes.2)

-- order

place_kept : (f g : Front) → f ⊑ g → (x : Exchange) → HasPlace f x → HasPlace g x
place_kept f g on x place = record {
  within = longer f g on x.receipt.changes place.within;
  lawful = subst (λ entries. AreBy x.receipt.moment entries) (sym (take_kept f g on x.receipt.changes place.within)) place.lawful;
  late = place.late;
}

pub goes_kept : (f g seen now : Front) (xs : List Exchange) → f ⊑ g → Goes f seen xs now → Goes g seen xs now
goes_kept f g seen now [] on goes = goes
goes_kept f g seen now (x ∷ xs) on goes =
    let same = cut_kept f g on x.receipt goes.1.within in (
      subst (λ front. IsFrom x.asked seen front) (sym same) goes.0,
      place_kept f g on x goes.1,
      subst (λ front. Goes g (left_by front x.asked x.receipt.memory) xs now) (sym same) (goes_kept f g (front_after f x) now xs on goes.2),
    )

pub goes_both : (journal seen mid now : Front) (xs ys : List Exchange) → Goes journal seen xs mid → Goes journal mid ys now → Goes journal seen (xs ++ ys) now
goes_both journal seen mid now [] ys one other = subst (λ f. Goes journal f ys now) (sym one) other
goes_both journal seen mid now (x ∷ xs) ys one other =
    (one.0, one.1, goes_both journal (front_after journal x) mid now xs ys one.2 other)

pub alone_kept : (f g seen : Front) (xs : List Exchange) → f ⊑ g → AreWithin f xs → GoesAlone f seen xs → GoesAlone g seen xs
alone_kept f g seen [] on within h = tt
alone_kept f g seen (x ∷ xs) on within h =
    let same = after_kept f g on x within.0 in
    (h.0, subst (λ front. GoesAlone g front xs) (sym same) (alone_kept f g (front_after f x) xs on within.1 h.1))

pub alone_both : (journal seen mid : Front) (xs ys : List Exchange) → Goes journal seen xs mid → GoesAlone journal seen xs → GoesAlone journal mid ys
    → GoesAlone journal seen (xs ++ ys)
alone_both journal seen mid [] ys goes one other = subst (λ f. GoesAlone journal f ys) (sym goes) other
alone_both journal seen mid (x ∷ xs) ys goes one other = (one.0, alone_both journal (front_after journal x) mid xs ys goes.2 one.1 other)

-- changes that were made

pub made_kept : (f g : Front) → f ⊑ g → (xs : List Exchange) → AreWithin f xs → made g xs ≡ made f xs
unfolding made
made_kept f g on [] within = refl
made_kept f g on (x ∷ xs) within =
    ap (λ front. numbered x.receipt.changes (change_in front x.asked x.receipt.memory) ++ made g xs) (cut_kept f g on x.receipt within.0)
    ∙ ap (λ l. numbered x.receipt.changes (change_by f x) ++ l) (made_kept f g on xs within.1)

pub made_both : (journal : Front) (xs ys : List Exchange) → made journal (xs ++ ys) ≡ made journal xs ++ made journal ys
unfolding made
made_both journal [] ys = refl
made_both journal (x ∷ xs) ys =
    ap (λ l. numbered x.receipt.changes (change_by journal x) ++ l) (made_both journal xs ys)
    ∙ sym (append_assoc (numbered x.receipt.changes (change_by journal x)) (made journal xs) (made journal ys))

pub made_none : (journal : Front) → made journal [] ≡ []
unfolding made
made_none journal = refl

pub made_one : (journal : Front) (x : Exchange) → made journal (x ∷ []) ≡ numbered x.receipt.changes (change_by journal x)
unfolding made
made_one journal x = append-nil (numbered x.receipt.changes (change_by journal x))
