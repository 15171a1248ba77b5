-- A journal lands where a change was added to it, and where none was.
use Rattle.std.proofs.Common.{◌≡◌, ⊎_elim, ℕ, ◌+◌, ◌-◌, ◌≤◌, List, [], ◌∷◌, ◌++◌, length, refl, sym, ap, subst, ◌∙◌, arith, length-append}
use Rattle.std.specs.List.{AllByRecursion}
use Rattle.ks_machine.specs.declared.change.Entry.{Entry}
use Rattle.ks_machine.specs.Fronts.{Front, IsSound, ◌⊑◌}
use Rattle.ks_machine.proofs.FrontLemmas.{reflexive}
use Rattle.ks_turn.specs.Passes.{Lands, Met, Passed, released}
use Rattle.ks_turn.specs.Views.{since}
use Rattle.ks_turn.proofs.SumLemmas.{length-numbers}
use Rattle.ks_turn_cases.specs.declared.journal.Journal.{Journal}
use Rattle.ks_turn_cases.specs.Journals.{Added, Grew, IsJournalOf}
use Rattle.ks_turn_cases.specs.Makes.{Made}

abbrev Means : Journal → Front → Type 0
Means journal f = IsJournalOf journal.entries.items journal.high f

-- a front that goes on from another has as many changes at least, and is at no lower moment
pub no_less : (f g : Front) → f ⊑ g → (length f.changes ≤ length g.changes) × (f.high ≤ g.high)
no_less f g later =
    let more : length g.changes ≡ length f.changes + length later.later = ap length later.changes ∙ length-append f.changes later.later in
    (omega arith, later.high)

-- a journal stands for one front alone of those with an opening
lands : (journal : Journal) (b f : Front) → b ⊑ f → Means journal f → Lands Means journal b f
lands journal b f later mine = record {
  later = later;
  stands = mine;
  alone = λ g later' theirs. λ i. record {
    opening = (sym later'.opening ∙ later.opening) i;
    changes = (theirs.changes ∙ sym mine.changes) i;
    high = (theirs.last ∙ sym mine.last) i;
    kept = (theirs.kept ∙ sym mine.kept) i;
  };
}

-- one change more that is no higher than the highest moment, which may have risen
sound_still : (low high : ℕ) (entries : List Entry) (entry : Entry) → low ≤ high → entry.moment ≤ high → AllByRecursion (λ e. e.moment ≤ low) entries
    → AllByRecursion (λ e. e.moment ≤ high) (entries ++ entry ∷ [])
sound_still low high [] entry le here all = (here, tt)
sound_still low high (e ∷ entries) entry le here all = (omega (arith, le, all.0), sound_still low high entries entry le here all.1)

abbrev Landing : Journal → Front → ℕ → ℕ → Type 0
Landing journal b from to = (f : Front) × Lands Means journal b f × (length f.changes + from ≡ length b.changes + to)

added : (journal : Journal) (old : List Entry) (high reading from to : ℕ) (b : Front) → IsJournalOf old high b → Added old high reading journal.entries.items journal.high → to ≡ from + 1
    → Landing journal b from to
added journal old high reading from to b was new is =
    let one : List Entry = new.entry ∷ [] in
    let moment = new.moment in
    let last = was.last in
    let higher = new.high_is in
    let kept = was.kept in
    let few = was.sound.kept in
    let count = ap length new.changes ∙ length-append old one in
    let count' : length b.changes ≡ length old = ap length was.changes in
    let f : Front = record { opening = b.opening; changes = journal.entries.items; high = journal.high; kept = length journal.entries.items } in
    let later : b ⊑ f = record {
      opening = refl;
      later = one;
      changes = new.changes ∙ ap (λ l. l ++ one) (sym was.changes);
      high = omega arith;
      moments = (omega arith, tt);
      kept = omega arith;
    } in
    let sound : IsSound f = record {
      moments = subst (AllByRecursion (λ (entry : Entry). entry.moment ≤ journal.high)) (sym (new.changes ∙ ap (λ l. l ++ one) (sym was.changes)))
          (sound_still b.high journal.high b.changes new.entry (omega arith) (omega arith) was.sound.moments);
      kept = omega arith;
    } in
    (f, lands journal b f later (record { changes = refl; last = refl; kept = refl; sound = sound }), omega arith)

unchanged : (journal : Journal) (old : List Entry) (high from to : ℕ) (b : Front) → IsJournalOf old high b → journal.entries.items ≡ old → journal.high ≡ high → to ≡ from
    → Landing journal b from to
unchanged journal old high from to b was same same' is = (
  b,
  lands journal b b (reflexive b) (record { changes = was.changes ∙ sym same; last = was.last ∙ sym same'; kept = was.kept ∙ ap length (sym same); sound = was.sound }),
  omega arith,
)

pub landing : (journal : Journal) (old : List Entry) (high reading from to : ℕ) (b : Front) → IsJournalOf old high b
    → Grew old high reading journal.entries.items journal.high from to → Landing journal b from to
landing journal old high reading from to b was grew =
    ⊎_elim
    (λ (a : Added old high reading journal.entries.items journal.high × (to ≡ from + 1)). added journal old high reading from to b was a.0 a.1)
    (λ (n : (journal.entries.items ≡ old) × (journal.high ≡ high) × (to ≡ from)). unchanged journal old high from to b was n.0 n.1 n.2)
    grew

pub made_by : (old held result : Passed) (f : Front) (from to : ℕ) → held ≡ record old { seen = held.seen } → result ≡ released held f
    → held.seen ⊑ f → length f.changes + from ≡ length held.seen.changes + to → Made old result from to
made_by old held result f from to same is later more =
    let turn = ap (λ (p : Passed). p.turn) same in
    let weight = ap (λ (p : Passed). p.weight) same in
    let own = ap (λ (p : Passed). length p.own) same in
    let le = no_less held.seen f later in
    let numbers = length-numbers (length held.seen.changes) (length f.changes - length held.seen.changes) in
    let grew = length-append held.own (since held.seen.changes f.changes) in
    subst (λ (p : Passed). Made old p from to) (sym is) (turn, weight, omega (arith, le.0))

-- the pass that is left of two has the weight of both, and the changes of both were made through it
pub met_is : (first : Front) (one other both : Passed) → Met first one other both
    → (both.turn ≡ one.turn) × (both.weight ≡ one.weight + other.weight) × (length both.own ≡ length one.own + length other.own)
met_is first one other both met = (
  ap (λ (p : Passed). p.turn) met.pass,
  ap (λ (p : Passed). p.weight) met.pass,
  ap (λ (p : Passed). length p.own) met.pass ∙ length-append one.own other.own,
)
