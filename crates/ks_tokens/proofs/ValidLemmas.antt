-- The lines of a token's validity hold exactly where the relation does.
use Rattle.std.proofs.Common.{◌≡◌, ℕ, ◌+◌, Bool, true, false, ◌&&◌, ◌||◌, inl, inr, List, [], ◌∷◌, ◌++◌, length, Option, Some, None, Result, Ok, Err, refl, sym, ap, subst, ◌∙◌, arith}
use Rattle.std.specs.Prelude.{not, nat_le, nat_lt}
use Rattle.std.specs.List.{AllByRecursion, list_all, list_any}
use Rattle.std.specs.Option.{option_and_then, option_map_or}
use Rattle.std.proofs.lemmas.Bool.{and_parts, leb-true, le-leb, ltb-true, lt-ltb}
use Rattle.ks_base.specs.declared.app_creds.AppCredRow.{AppCredRow}
use Rattle.ks_base.specs.declared.events.EventRow.{EventRow}
use Rattle.ks_base.specs.declared.grants.Target.TheVariants as target
use Rattle.ks_base.specs.declared.trusts.TrustRow.{TrustRow}
use Rattle.ks_base.specs.AppCreds.{cred_of}
use Rattle.ks_base.specs.Revocation.{is_revoked, matches}
use Rattle.ks_base.specs.Rows.{Id, Text, Rows, trust_of}
use Rattle.ks_base.specs.Tables.{Among}
use Rattle.ks_base.specs.Trusts.{first_trustor}
use Rattle.ks_base.proofs.AmongLemmas.{any_from, any_to}
use Rattle.ks_base.proofs.TruthLemmas.{not_both}
use Rattle.ks_fernet.specs.declared.opening.OpenAnswer.{OpenAnswer}
use Rattle.ks_fernet.specs.declared.opening.OpenAnswer.TheVariants.{NotText, No, Yes}
use Rattle.ks_fernet.specs.Opening.{open_of}
use Rattle.ks_machine.specs.declared.lines.ReadToken.{ReadToken}
use Rattle.ks_machine.specs.declared.why.Why.{Why}
use Rattle.ks_machine.specs.declared.why.Why.TheVariants as why
use Rattle.ks_machine.specs.Attempts.{Attempt, Go, ◌>>=◌, decided, everything, need}
use Rattle.ks_machine.specs.States.{State, is_user_on}
use Rattle.ks_machine.specs.TokenLines.{end_of, token_lines}
use Rattle.ks_machine.specs.Validity.{Valid, are_had, are_kept, has_cred_roles, has_roles, held_lines, holder, is_cred_line, is_had, is_kept, is_scope_on, is_scoped, is_trust_line, opened, opened_by, opens, roles_of, unless_lacking, validity}
use Rattle.ks_machine.proofs.FewFacts.{nothing_lacking}
use Rattle.ks_machine.proofs.RoleLemmas.{effective-Decides}
use Rattle.ks_machine.proofs.TokenLemmas.{had_by_cred, implied_is_had, trust_bound, valid_holds}
use Rattle.ks_payload.specs.declared.payload.Payload.{Payload}
use Rattle.ks_payload.specs.Readings.{payload_of}
use Rattle.ks_ring.specs.declared.held_key.HeldKey.{HeldKey}
use Rattle.ks_tokens.specs.ValidTokens.{HasRoles, IsOpened, IsRole, IsRoleBy, IsValid}
use Rattle.ks_tokens.proofs.RoleLists.{AreThese, role_list, same_role_list}
use Rattle.ks_tokens.proofs.TimeLemmas.{in_time, lines_pass}

-- opening

opened_at : (key : HeldKey) (keys : List HeldKey) (text : Text) (issued : ℕ) (plain : List ℕ) (answer below : OpenAnswer) → open_of key.key text ≡ answer
    → opened_by (Some answer) below ≡ Yes issued plain → (below ≡ Yes issued plain → IsOpened keys text issued plain) → IsOpened (key ∷ keys) text issued plain
opened_at key keys text issued plain (Yes time bytes) below is says rest =
    record { before = []; held = key; behind = keys; are = refl; none_before = tt; opens = is ∙ says }
opened_at key keys text issued plain No below is says rest =
    let r = rest says in
    record { before = key ∷ r.before; held = r.held; behind = r.behind; are = ap (λ l. key ∷ l) r.are; none_before = (is, r.none_before); opens = r.opens }
opened_at key keys text issued plain NotText below is says rest = cc

opened_is : (keys : List HeldKey) (text : Text) (issued : ℕ) (plain : List ℕ) → opened everything text keys ≡ Yes issued plain → IsOpened keys text issued plain
unfolding opened
opened_is [] text issued plain says = cc
opened_is (key ∷ keys) text issued plain says =
    opened_at key keys text issued plain (open_of key.key text) (opened everything text keys) refl says (opened_is keys text issued plain)

opened_behind : (before : List HeldKey) (held : HeldKey) (behind : List HeldKey) (text : Text) (issued : ℕ) (plain : List ℕ)
    → AllByRecursion (λ (key : HeldKey). open_of key.key text ≡ No) before → open_of held.key text ≡ Yes issued plain
    → opened everything text (before ++ held ∷ behind) ≡ Yes issued plain
unfolding opened
opened_behind [] held behind text issued plain none opens = ap (λ (a : OpenAnswer). opened_by (Some a) (opened everything text behind)) opens
opened_behind (key ∷ before) held behind text issued plain none opens =
    ap (λ (a : OpenAnswer). opened_by (Some a) (opened everything text (before ++ held ∷ behind))) none.0
    ∙ opened_behind before held behind text issued plain none.1 opens

pub opened_by_one : (keys : List HeldKey) (text : Text) (issued : ℕ) (plain : List ℕ) → IsOpened keys text issued plain → opened everything text keys ≡ Yes issued plain
opened_by_one keys text issued plain is =
    ap (opened everything text) is.are ∙ opened_behind is.before is.held is.behind text issued plain is.none_before is.opens

-- revocations

unmatched_by : (events : List EventRow) (test : EventRow → Bool) (event : EventRow) (b : Bool) → test event ≡ b → not (list_any test events) ≡ true → Among events event → test event ≡ false
unmatched_by events test event true is none among = absurd (not_both (list_any test events) none (any_to test events event among is))
unmatched_by events test event false is none among = is

unrevoked_by : (events : List EventRow) (test : EventRow → Bool) (b : Bool) → list_any test events ≡ b → ((event : EventRow) → Among events event → test event ≡ false) → not (list_any test events) ≡ true
unrevoked_by events test true is none = let one = any_from test events is in absurd (cc (sym one.2 ∙ none one.0 one.1))
unrevoked_by events test false is none = ap not is

-- roles

-- the first of them, where a scope needs one
some_of : (ids : List Id) (scoped : Bool) → (not scoped || nat_lt 0 (length ids)) ≡ true → scoped ≡ true → (id : Id) × Among ids id
some_of [] true some is = cc
some_of [] false some is = cc
some_of (id ∷ ids) scoped some is = (id, inl refl)

length_some : (ids : List Id) (id : Id) → Among ids id → nat_lt 0 (length ids) ≡ true
length_some [] id among = absurd among
length_some (next ∷ ids) id among = lt-ltb 0 (length (next ∷ ids)) (omega arith)

or_some : (a b : Bool) → (a ≡ true → b ≡ true) → (not a || b) ≡ true
or_some true b then = then refl
or_some false b then = refl

both_hold : (a b : Bool) → a ≡ true → b ≡ true → (a && b) ≡ true
both_hold true b first second = second
both_hold false b first second = first

has_roles_is : (S : State) (moment : ℕ) (late : Bool) (text : Text) (token : Valid) → validity everything S moment late text ≡ Go token → HasRoles S.rows token.payload token.roles
has_roles_is S moment late text token goes =
    let holds = valid_holds everything S moment late text token goes in
    let parts = and_parts _ (are_kept S.rows token.payload && are_had S.rows token.payload) holds.has_roles_of in
    let had = (and_parts (are_kept S.rows token.payload) (are_had S.rows token.payload) parts.1).1 in
    let all = subst (AreThese (IsRole S.rows token.payload)) (sym holds.roles) (role_list S.rows token.payload) in
    record {
      order = all.order;
      are = all.members;
      some = λ scoped. let one = some_of (roles_of S.rows token.payload) (is_scoped token.payload) parts.0 scoped in (one.0, ((role_list S.rows token.payload).members one.0).0 one.1);
      kept = λ id trust role named stands is. trust_bound everything S moment late text token id trust role goes named stands ((all.members role).1 is);
      had = λ id cred role named stands implied. implied_is_had S.rows cred role (had_by_cred S.rows token.payload id cred named stands had) implied;
    }

all_pass : {X : Type 0} (test : X → Bool) (xs : List X) → ((x : X) → Among xs x → test x ≡ true) → list_all test xs ≡ true
all_pass test [] each = refl
all_pass test (x ∷ xs) each = both_hold (test x) (list_all test xs) (each x (inl refl)) (all_pass test xs (λ y among. each y (inr among)))

are_kept_of : (rows : Rows) (payload : Payload) (roles : List Id) → HasRoles rows payload roles → are_kept rows payload ≡ true
are_kept_of rows payload roles has = by payload.trust refl
  where
    kept : Option TrustRow → Bool
    kept row = option_map_or (λ trust. list_all (is_kept rows trust) trust.roles) row true

    by_row : (id : Id) (row : Option TrustRow) → payload.trust ≡ Some id → trust_of id rows.trusts ≡ row → kept row ≡ true
    by_row id None named stands = refl
    by_row id (Some trust) named stands = all_pass (is_kept rows trust) trust.roles (λ role among.
        let is : IsRole rows payload role = subst (λ (t : Option Id). IsRoleBy rows payload t payload.credential payload.project payload.domain role) (sym named) (trust, stands, (role, among, ([], refl))) in
        (effective-Decides rows (first_trustor rows.trusts trust) (target.Project trust.project) role).1 (has.kept id trust role named stands is))

    by : (named : Option Id) → payload.trust ≡ named → are_kept rows payload ≡ true
    by None is = ap (λ (t : Option Id). kept (option_and_then (λ id. trust_of id rows.trusts) t)) is
    by (Some id) is = ap (λ (t : Option Id). kept (option_and_then (λ id. trust_of id rows.trusts) t)) is ∙ by_row id (trust_of id rows.trusts) is refl

are_had_of : (rows : Rows) (payload : Payload) (roles : List Id) → HasRoles rows payload roles → are_had rows payload ≡ true
are_had_of rows payload roles has = by payload.credential refl
  where
    had : Option AppCredRow → Bool
    had row = option_map_or (has_cred_roles rows) row true

    by_row : (id : Id) (row : Option AppCredRow) → payload.credential ≡ Some id → cred_of id rows.app_creds ≡ row → had row ≡ true
    by_row id None named stands = refl
    by_row id (Some cred) named stands = all_pass (is_had rows cred) cred.roles (λ role among.
        (effective-Decides rows cred.user (target.Project cred.project) role).1 (has.had id cred role named stands (role, among, ([], refl))))

    by : (named : Option Id) → payload.credential ≡ named → are_had rows payload ≡ true
    by None is = ap (λ (c : Option Id). had (option_and_then (λ id. cred_of id rows.app_creds) c)) is
    by (Some id) is = ap (λ (c : Option Id). had (option_and_then (λ id. cred_of id rows.app_creds) c)) is ∙ by_row id (cred_of id rows.app_creds) is refl

has_roles_of : (rows : Rows) (payload : Payload) (roles : List Id) → HasRoles rows payload roles → has_roles rows payload ≡ true
has_roles_of rows payload roles has =
    both_hold (not (is_scoped payload) || nat_lt 0 (length (roles_of rows payload))) (are_kept rows payload && are_had rows payload)
    (or_some (is_scoped payload) (nat_lt 0 (length (roles_of rows payload)))
    (λ scoped. let one = has.some scoped in length_some (roles_of rows payload) one.0 (((role_list rows payload).members one.0).1 one.1)))
    (both_hold (are_kept rows payload) (are_had rows payload) (are_kept_of rows payload roles has) (are_had_of rows payload roles has))

-- all lines

decided_goes : {E A B : Type 0} (r : Result A E) (f : A → Attempt E B) (b : B) → decided r >>= f ≡ Go b → (x : A) × (r ≡ Ok x) × (f x ≡ Go b)
decided_goes (Ok x) f b goes = (x, refl, goes)
decided_goes (Err e) f b goes = cc

behind_need : {E B : Type 0} (holds : Bool) (e : E) (f : Unit {0} → Attempt E B) (b : B) → need holds e >>= f ≡ Go b → f tt ≡ Go b
behind_need true e f b goes = goes
behind_need false e f b goes = cc

abbrev told_of : State → ReadToken → Valid
told_of S held = record { payload = held.payload; issued = held.issued; roles = roles_of S.rows held.payload }

held_told : (S : State) (moment : ℕ) (held : ReadToken) (token : Valid) → held_lines S moment held ≡ Go token → told_of S held ≡ token
unfolding held_lines
held_told S moment held token goes =
    let user = behind_need (not (is_revoked S.events (holder S.rows held.payload) held.issued)) why.Revoked _ token goes in
    let scope = behind_need (is_user_on S.rows held.payload.user) why.User _ token user in
    let trust = behind_need (is_scope_on S.rows held.payload) why.Scope _ token scope in
    let credential = behind_need (is_trust_line S.rows moment held.payload) why.Trust _ token trust in
    let roles = behind_need (is_cred_line S.rows moment held.payload) why.Credential _ token credential in
    let last = behind_need (has_roles S.rows held.payload) why.Roles _ token roles in
    cc

record Times (S : State) (moment : ℕ) (late : Bool) (text : Text) (token : Valid) : Type 0 where
  plain : List ℕ
  opened : opened everything text S.ring.held ≡ Yes token.issued plain
  payload : payload_of plain ≡ Some token.payload
  past : nat_le token.issued moment ≡ true
  unexpired : nat_lt moment (end_of late token.payload.expires) ≡ true
  span : nat_le token.payload.expires (token.issued + S.settings.life) ≡ true

times : (S : State) (moment : ℕ) (late : Bool) (text : Text) (token : Valid) → validity everything S moment late text ≡ Go token → Times S moment late text token
unfolding validity opens
times S moment late text token goes =
    let keys = S.ring.held in
    let answer = opened everything text keys in
    let P : List HeldKey → Type 0 = λ none. unless_lacking {E = Why} none answer >>= (λ answer. decided (token_lines S.settings.life moment late answer) >>= (λ held. held_lines S moment held)) ≡ Go token in
    let read = decided_goes (token_lines S.settings.life moment late answer) (λ held. held_lines S moment held) token (subst P (nothing_lacking text keys) goes) in
    let lines = in_time S.settings.life moment late answer read.0 read.1 in
    subst (Times S moment late text) (held_told S moment read.0 token read.2)
    (record { plain = read.0.plain; opened = lines.answered; payload = lines.payload; past = lines.past; unexpired = lines.unexpired; span = lines.span })

pub valid_is : (S : State) (moment : ℕ) (late : Bool) (text : Text) (token : Valid) → validity everything S moment late text ≡ Go token → IsValid S moment late text token
valid_is S moment late text token goes =
    let time = times S moment late text token goes in
    let holds = valid_holds everything S moment late text token goes in
    let test : EventRow → Bool = λ event. matches event (holder S.rows token.payload) token.issued in
    record {
      plain = time.plain;
      opened = opened_is S.ring.held text token.issued time.plain time.opened;
      payload = time.payload;
      past = leb-true token.issued moment time.past;
      unexpired = ltb-true moment (end_of late token.payload.expires) time.unexpired;
      span = leb-true token.payload.expires (token.issued + S.settings.life) time.span;
      unmatched = λ event among. unmatched_by S.events test event (test event) refl holds.revoked among;
      user = holds.user;
      scope = holds.scope;
      trust = holds.trust;
      credential = holds.credential;
      roles = has_roles_is S moment late text token goes;
    }

held_goes : (S : State) (moment : ℕ) (held : ReadToken) → not (is_revoked S.events (holder S.rows held.payload) held.issued) ≡ true → is_user_on S.rows held.payload.user ≡ true
    → is_scope_on S.rows held.payload ≡ true → is_trust_line S.rows moment held.payload ≡ true → is_cred_line S.rows moment held.payload ≡ true
    → has_roles S.rows held.payload ≡ true → held_lines S moment held ≡ Go (told_of S held)
unfolding held_lines
held_goes S moment held revoked user scope trust credential roles = rw (revoked, user, scope, trust, credential, roles) refl

validity_goes : (S : State) (moment : ℕ) (late : Bool) (text : Text) (answer : OpenAnswer) (held : ReadToken) → opened everything text S.ring.held ≡ answer
    → token_lines S.settings.life moment late answer ≡ Ok held → held_lines S moment held ≡ Go (told_of S held) → validity everything S moment late text ≡ Go (told_of S held)
unfolding validity opens
validity_goes S moment late text answer held opens lines goes = rw (nothing_lacking text S.ring.held, opens, lines) goes

pub valid_goes : (S : State) (moment : ℕ) (late : Bool) (text : Text) (token : Valid) → IsValid S moment late text token → validity everything S moment late text ≡ Go token
valid_goes S moment late text token is =
    let held : ReadToken = record { payload = token.payload; issued = token.issued; plain = is.plain } in
    let test : EventRow → Bool = λ event. matches event (holder S.rows token.payload) token.issued in
    let lines = lines_pass S.settings.life moment late token.issued is.plain token.payload is.payload (le-leb token.issued moment is.past)
    (lt-ltb moment (end_of late token.payload.expires) is.unexpired) (le-leb token.payload.expires (token.issued + S.settings.life) is.span) in
    let same = same_role_list S.rows token.payload token.roles (record { order = is.roles.order; members = is.roles.are }) in
    validity_goes S moment late text (Yes token.issued is.plain) held (opened_by_one S.ring.held text token.issued is.plain is.opened) lines
    (held_goes S moment held (unrevoked_by S.events test (list_any test S.events) refl is.unmatched) is.user is.scope is.trust is.credential
    (has_roles_of S.rows token.payload token.roles is.roles))
    ∙ ap (λ (roles : List Id). Go (record { payload = token.payload; issued = token.issued; roles = roles })) (sym same)
