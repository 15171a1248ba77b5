-- A token of which nothing is known but that a fact is lacking: which keys lack theirs.
use Rattle.std.proofs.Common.{◌≡◌, ℕ, Bool, true, false, not, List, [], ◌∷◌, Result, Ok, Err, ap, sym, ◌∙◌}
use Rattle.ks_base.specs.Rows.{Text}
use Rattle.ks_fernet.specs.declared.opening.OpenAnswer.{OpenAnswer}
use Rattle.ks_base.specs.Revocation.{is_revoked}
use Rattle.ks_machine.specs.Attempts.{Attempt, Go, Stop, Lacks, Lack, Keys, ◌>>=◌, Known, blame, decided, need}
use Rattle.ks_machine.specs.States.{State, is_user_on}
use Rattle.ks_machine.specs.TokenLines.{token_lines}
use Rattle.ks_machine.specs.Validity.{Valid, has_roles, held_lines, holder, is_cred_line, is_scope_on, is_trust_line, lacking, opened, opens, roles_of, unless_lacking, validity}
use Rattle.ks_machine.specs.declared.lines.ReadToken.{ReadToken}
use Rattle.ks_machine.specs.declared.why.Why.{Why}
use Rattle.ks_machine.specs.declared.why.Why.TheVariants as why
use Rattle.ks_ring.specs.declared.held_key.HeldKey.{HeldKey}
use Rattle.ks_auth.specs.Answers.{Tells}
use Rattle.ks_auth.specs.declared.tables.Tables.{Tables}

-- what lacks no fact by itself, and after which nothing does, lacks none
abbrev pub LacksNone : {A : Type 0} → Attempt Why A → Type 0
LacksNone (Go a) = Unit {0}
LacksNone (Stop w) = Unit {0}
LacksNone (Lacks lack) = ⊥

six_lack_none : (a b c d e f : Bool) (token : Valid) →
    LacksNone (need a why.Revoked >>= (λ _. need b why.User >>= (λ _. need c why.Scope >>= (λ _. need d why.Trust >>= (λ _. need e why.Credential >>= (λ _. need f why.Roles >>= (λ _. Go token)))))))
six_lack_none false b c d e f token = tt
six_lack_none true false c d e f token = tt
six_lack_none true true false d e f token = tt
six_lack_none true true true false e f token = tt
six_lack_none true true true true false f token = tt
six_lack_none true true true true true false token = tt
six_lack_none true true true true true true token = tt

lines_lack_none : (S : State) (moment : ℕ) (held : ReadToken) → LacksNone (held_lines S moment held)
unfolding held_lines
lines_lack_none S moment held =
    six_lack_none (not (is_revoked S.events (holder S.rows held.payload) held.issued)) (is_user_on S.rows held.payload.user)
    (is_scope_on S.rows held.payload) (is_trust_line S.rows moment held.payload) (is_cred_line S.rows moment held.payload) (has_roles S.rows held.payload)
    (record { payload = held.payload; issued = held.issued; roles = roles_of S.rows held.payload })

decided_lacks_none : (S : State) (moment : ℕ) (r : Result ReadToken Why) → LacksNone (decided r >>= held_lines S moment)
decided_lacks_none S moment (Ok held) = lines_lack_none S moment held
decided_lacks_none S moment (Err w) = tt

none_is_lacking : {A : Type 0} (said : Attempt Why A) (lack : Lack) → LacksNone said → said ≡ Lacks lack → ⊥
none_is_lacking (Go a) lack none is = cc
none_is_lacking (Stop w) lack none is = cc
none_is_lacking (Lacks other) lack none is = none

lacks_by : (S : State) (moment : ℕ) (late : Bool) (all keys : List HeldKey) (answer : OpenAnswer) →
    unless_lacking all answer >>= (λ said. decided (token_lines S.settings.life moment late said) >>= held_lines S moment) ≡ Lacks (Keys keys) → keys ≡ all
lacks_by S moment late [] keys answer is =
    absurd (none_is_lacking _ (Keys keys) (decided_lacks_none S moment (token_lines S.settings.life moment late answer)) is)
lacks_by S moment late (key ∷ more) keys answer is = cc

-- a validity that lacks facts lacks those of exactly these keys
pub lacks_those : (known : Known) (S : State) (moment : ℕ) (late : Bool) (text : Text) (keys : List HeldKey) →
    validity known S moment late text ≡ Lacks (Keys keys) → keys ≡ lacking known text S.ring.held
unfolding validity opens
lacks_those known S moment late text keys is =
    lacks_by S moment late (lacking known text S.ring.held) keys (opened known text S.ring.held) is

-- the same by the tables that tell the state, and by the list of them
pub lacks_told : {E : Type 0} (f : Why → E) (known : Known) (tables : Tables) (S : State) (moment : ℕ) (late : Bool) (text : Text) (keys list held : List HeldKey) →
    Tells tables S → validity known S moment late text ≡ Lacks (Keys keys) → list ≡ lacking known text held → held ≡ tables.ring.now.held →
    blame f (validity known S moment late text) ≡ Lacks (Keys list)
lacks_told f known tables S moment late text keys list held tells is list_is held_is =
    ap (blame f) (is ∙ ap (λ some. Lacks (Keys some))
    (lacks_those known S moment late text keys is ∙ ap (λ ring. lacking known text ring.held) tells.ring ∙ sym (list_is ∙ ap (lacking known text) held_is)))
