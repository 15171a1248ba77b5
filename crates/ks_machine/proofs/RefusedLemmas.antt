-- A token that a revocation ends is refused in every front that goes on.
use Rattle.std.proofs.Common.{◌≡◌, ℕ, ◌≤◌, Bool, true, List, [], ◌∷◌, ◌++◌, sym, ap, subst, ◌∙◌}
use Rattle.std.specs.Prelude.{not}
use Rattle.std.specs.List.{AllByRecursion}
use Rattle.ks_base.specs.Revocation.{is_revoked}
use Rattle.ks_base.specs.Rows.{Text}
use Rattle.ks_base.proofs.TruthLemmas.{not_both}
use Rattle.ks_machine.specs.declared.change.Entry.{Entry}
use Rattle.ks_machine.specs.Attempts.{Go, Known}
use Rattle.ks_machine.specs.Changes.{apply}
use Rattle.ks_machine.specs.Fronts.{Front, ◌⊑◌, replay, replayed}
use Rattle.ks_machine.specs.Lawful.{AreLawful, IsLawful}
use Rattle.ks_machine.specs.Opened.{opened_state}
use Rattle.ks_machine.specs.States.{State}
use Rattle.ks_machine.specs.Validity.{Valid, holder, validity}
use Rattle.ks_machine.proofs.EndedLemmas.{still_revoked}
use Rattle.ks_machine.proofs.FrontLemmas.{replayed_both, later_than}
use Rattle.ks_machine.proofs.TokenLemmas.{valid_holds}
use Rattle.ks_payload.specs.declared.payload.Payload.{Payload}

-- the changes behind some are lawful from the state that those leave
lawful_behind : (S : State) (last : ℕ) (xs ys : List Entry) (high : ℕ) → AreLawful S last (xs ++ ys) high → (mid : ℕ) × AreLawful (replayed S xs) mid ys high
unfolding AreLawful replayed
lawful_behind S last [] ys high lawful = (last, lawful)
lawful_behind S last (x ∷ xs) ys high lawful = lawful_behind (apply S x.moment x.change) x.moment xs ys high lawful.4

revoked_on : (S : State) (last : ℕ) (entries : List Entry) (high : ℕ) (payload : Payload) (issued : ℕ) → AreLawful S last entries high →
    AllByRecursion (λ entry. issued ≤ entry.moment) entries → is_revoked S.events (holder S.rows payload) issued ≡ true →
    is_revoked (replayed S entries).events (holder (replayed S entries).rows payload) issued ≡ true
unfolding AreLawful replayed
revoked_on S last [] high payload issued lawful later revoked = revoked
revoked_on S last (entry ∷ entries) high payload issued lawful later revoked =
    revoked_on (apply S entry.moment entry.change) entry.moment entries high payload issued lawful.4 later.1
    (still_revoked S entry.moment entry.change payload issued lawful.2 later.0 revoked)

revoked_in : (f g : Front) (payload : Payload) (issued : ℕ) → IsLawful g → f ⊑ g → issued ≤ f.high →
    is_revoked (replay f).events (holder (replay f).rows payload) issued ≡ true →
    is_revoked (replay g).events (holder (replay g).rows payload) issued ≡ true
unfolding replay
revoked_in f g payload issued lawful on le revoked =
    let P : List Entry → Type 0 = λ changes. AreLawful (opened_state g.opening) 0 changes g.high in
    let behind = lawful_behind (opened_state g.opening) 0 f.changes on.later g.high (subst P on.changes lawful.changes) in
    let start : replayed (opened_state f.opening) f.changes ≡ replayed (opened_state g.opening) f.changes = ap (λ opening. replayed (opened_state opening) f.changes) on.opening in
    let Q : State → Type 0 = λ S. is_revoked S.events (holder S.rows payload) issued ≡ true in
    let ended = revoked_on (replayed (opened_state g.opening) f.changes) behind.0 on.later g.high payload issued behind.1 (later_than issued f.high on.later le on.moments) (subst Q start revoked) in
    let end : replayed (opened_state g.opening) g.changes ≡ replayed (replayed (opened_state g.opening) f.changes) on.later =
    ap (replayed (opened_state g.opening)) on.changes ∙ replayed_both (opened_state g.opening) f.changes on.later in
    subst Q (sym end) ended

pub refused_ever_after : (f g : Front) (payload : Payload) (issued : ℕ) → IsLawful g → f ⊑ g → issued ≤ f.high →
    is_revoked (replay f).events (holder (replay f).rows payload) issued ≡ true →
    (known : Known) (moment : ℕ) (late : Bool) (text : Text) (token : Valid) → validity known (replay g) moment late text ≡ Go token →
    token.payload ≡ payload → token.issued ≡ issued → ⊥
refused_ever_after f g payload issued lawful on le revoked known moment late text token goes payload_is issued_is =
    let holds = (valid_holds known (replay g) moment late text token goes).revoked in
    let P : Payload → Type 0 = λ p. not (is_revoked (replay g).events (holder (replay g).rows p) token.issued) ≡ true in
    let Q : ℕ → Type 0 = λ n. not (is_revoked (replay g).events (holder (replay g).rows payload) n) ≡ true in
    not_both (is_revoked (replay g).events (holder (replay g).rows payload) issued)
    (subst Q issued_is (subst P payload_is holds)) (revoked_in f g payload issued lawful on le revoked)
