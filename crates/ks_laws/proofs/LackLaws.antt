-- What a step lacks can be found out: it is of what stands, in range, of its call, and not known.
use Rattle.std.proofs.Common.{◌≡◌, ℕ, ◌≤◌, true, List, [], ◌∷◌, length, drop, Option, Some, None, IfSome, option_map, inl, inr, refl, sym, ap, ◌∙◌, subst, length-drop, length-take, arith}
use Rattle.std.specs.List.{find}
use Rattle.std.specs.Option.{option_and_then}
use Rattle.ks_base.specs.declared.app_creds.AppCredRow.{AppCredRow}
use Rattle.ks_base.specs.declared.receipt.Drawn.{Drawn}
use Rattle.ks_base.specs.declared.receipt.Drawn.TheVariants.{Unused, Bytes, Failed}
use Rattle.ks_base.specs.declared.rows.DomainRow.{DomainRow}
use Rattle.ks_base.specs.declared.users.PasswordRow.{PasswordRow}
use Rattle.ks_base.specs.declared.users.UserRow.{UserRow}
use Rattle.ks_base.specs.AppCreds.{cred_named, is_cred_named}
use Rattle.ks_base.specs.People.{is_user_named}
use Rattle.ks_base.specs.Rows.{Id, Rows, Text, user_of}
use Rattle.ks_base.specs.Tables.{Among}
use Rattle.ks_fernet.specs.declared.opening.OpenAnswer.{OpenAnswer}
use Rattle.ks_fernet.specs.declared.opening.OpenAnswer.TheVariants.{NotText, No, Yes}
use Rattle.ks_laws.specs.Lacking.{IsKept, IsLack, IsNewOf, IsTestedRow, IsUnknown, kept_of, password_in}
use Rattle.ks_laws.specs.Laws.{AnswersAreReplies, KeptSaltsAreWhole, LacksAreInRange, LacksAreUnknown}
use Rattle.ks_laws.specs.Orderly.{Each, IsOrderly}
use Rattle.ks_laws.proofs.AsksLemmas.{Asks, asks_asked, asks_map}
use Rattle.ks_laws.proofs.LackLemmas.{ChecksAsk, asks_checked}
use Rattle.ks_laws.proofs.ListLemmas.{found_is_among, found_passes}
use Rattle.ks_machine.specs.declared.bodies.CredNamed.{CredNamed}
use Rattle.ks_machine.specs.declared.bodies.CredNamed.TheVariants as cred_named_by
use Rattle.ks_machine.specs.declared.bodies.LoginBody.{LoginBody}
use Rattle.ks_machine.specs.declared.bodies.Proof.{Proof}
use Rattle.ks_machine.specs.declared.bodies.Proof.TheVariants as proof
use Rattle.ks_machine.specs.declared.bodies.UserNamed.{UserNamed}
use Rattle.ks_machine.specs.declared.bodies.UserNamed.TheVariants as user_named
use Rattle.ks_machine.specs.declared.call.Call.{Call}
use Rattle.ks_machine.specs.declared.cause.Cause.{Cause}
use Rattle.ks_machine.specs.declared.command.Command.{Command}
use Rattle.ks_machine.specs.declared.command.Command.TheVariants as command
use Rattle.ks_machine.specs.declared.why.Why.{Why}
use Rattle.ks_machine.specs.Actions.{requirements}
use Rattle.ks_machine.specs.Attempts.{Attempt, Go, Stop, Lacks, Lack, Keys, Stored, Fresh, Known}
use Rattle.ks_machine.specs.Fit.{Fit, IsDraw, IsDrawFor}
use Rattle.ks_machine.specs.Fronts.{answer, change_of, replay, reply_of}
use Rattle.ks_machine.specs.Login.{is_password}
use Rattle.ks_machine.specs.Moment.{moment_of}
use Rattle.ks_machine.specs.Outcomes.{Outcome, salt}
use Rattle.ks_machine.specs.Passwords.{derived}
use Rattle.ks_machine.specs.Ranges.{AreRounds}
use Rattle.ks_machine.specs.Scopes.{cred_in, domain_in, user_in}
use Rattle.ks_machine.specs.States.{State, raised}
use Rattle.ks_machine.specs.Steps.{Stepped, Replies, Needs, checked, has_drawn, step_at, stepped}
use Rattle.ks_machine.specs.Validity.{lacking, lacking_by, opened, opens, unless_lacking}
use Rattle.ks_machine.proofs.AllFacts.{all_facts}
use Rattle.ks_ring.specs.declared.held_key.HeldKey.{HeldKey}

-- the three checks

asks_unless_lacking : (E : Type 0) (P : Lack → Type 0) (keys : List HeldKey) (answer : OpenAnswer) → (1 ≤ length keys → P (Keys keys)) →
    Asks {E = E} P (unless_lacking keys answer)
unfolding Asks
asks_unless_lacking E P [] answer is = tt
asks_unless_lacking E P (key ∷ keys) answer is = is (omega arith)

asks_opens : (P : Lack → Type 0) (known : Known) (keys : List HeldKey) (text : Text) →
    (1 ≤ length (lacking known text keys) → P (Keys (lacking known text keys))) → Asks {E = Why} P (opens known keys text)
unfolding opens
asks_opens P known keys text is = asks_unless_lacking Why P (lacking known text keys) (opened known text keys) is

asks_tested : (P : Lack → Type 0) (known : Known) (row : PasswordRow) (password : Text) →
    (known.derive password row.salt row.rounds ≡ None → P (Stored row.salt row.rounds)) → Asks {E = Cause} P (is_password known row password)
unfolding is_password
asks_tested P known row password is = asks_map P _ _ (asks_asked Cause P (Stored row.salt row.rounds) (known.derive password row.salt row.rounds) is)

asks_fresh : (P : Lack → Type 0) (known : Known) (S : State) (drawn : Drawn) (password : Text) →
    (known.derive password (salt drawn) S.settings.rounds ≡ None → P (Fresh (salt drawn) S.settings.rounds)) → Asks {E = Cause} P (derived known S drawn password)
unfolding derived
asks_fresh P known S drawn password is =
    asks_map P _ _ (asks_asked Cause P (Fresh (salt drawn) S.settings.rounds) (known.derive password (salt drawn) S.settings.rounds) is)

-- keys that are asked for are held, and what they make of the text is not known

among_lacking_by : (said : Option OpenAnswer) (key : HeldKey) (below keys : List HeldKey) → Each (Among keys) below → Each (Among (key ∷ keys)) (lacking_by said key below)
among_lacking_by None key below keys deeper held (inl is) = inl is
among_lacking_by None key below keys deeper held (inr among) = inr (deeper held among)
among_lacking_by (Some (Yes time plain)) key below keys deeper held among = absurd among
among_lacking_by (Some No) key below keys deeper held among = inr (deeper held among)
among_lacking_by (Some NotText) key below keys deeper held among = inr (deeper held among)

among_lacking : (known : Known) (text : Text) (keys : List HeldKey) → Each (Among keys) (lacking known text keys)
unfolding lacking
among_lacking known text [] = λ held among. absurd among
among_lacking known text (key ∷ keys) = among_lacking_by (known.answer key text) key (lacking known text keys) keys (among_lacking known text keys)

unknown_by : (P : HeldKey → Type 0) (said : Option OpenAnswer) (key : HeldKey) (below : List HeldKey) → (said ≡ None → P key) → Each P below → Each P (lacking_by said key below)
unknown_by P None key below here deeper held (inl is) = subst P is (here refl)
unknown_by P None key below here deeper held (inr among) = deeper held among
unknown_by P (Some (Yes time plain)) key below here deeper held among = absurd among
unknown_by P (Some No) key below here deeper held among = deeper held among
unknown_by P (Some NotText) key below here deeper held among = deeper held among

unknown : (known : Known) (text : Text) (keys : List HeldKey) → Each (λ (held : HeldKey). known.answer held text ≡ None) (lacking known text keys)
unfolding lacking
unknown known text [] = λ held among. absurd among
unknown known text (key ∷ keys) =
    unknown_by (λ (held : HeldKey). known.answer held text ≡ None) (known.answer key text) key (lacking known text keys) (λ is. is) (unknown known text keys)

-- passwords

kept_in : (P : PasswordRow → Type 0) (password : Option PasswordRow) (row : PasswordRow) → password ≡ Some row → IfSome password P → P row
kept_in P None row is holds = cc
kept_in P (Some kept) row is holds = let same : kept ≡ row = cc in subst P same holds

new_draws : (call : Call) (password : Text) → IsNewOf call password → (requirements call.command).draws ≡ true
unfolding requirements
new_draws call password (inl (id, original, is)) = ap (λ (c : Command). (requirements c).draws) is
new_draws call password (inr (inl (given, name, domain, enabled, factors, is))) = ap (λ (c : Command). (requirements c).draws) is
new_draws call password (inr (inr (inl (id, given, name, domain, enabled, factors, is)))) = ap (λ (c : Command). (requirements c).draws) is
new_draws call password (inr (inr (inr (user, asked, is, told)))) = ap (λ (c : Command). (requirements c).draws) is

-- what is kept of a user that is found, or of a credential

password_holds : (P : PasswordRow → Type 0) (users : List UserRow) (named : Option UserRow) (row : PasswordRow) → ((user : UserRow) → named ≡ Some user → Among users user) →
    Each (λ (user : UserRow). IfSome user.password P) users → password_in named ≡ Some row → P row
password_holds P users None row stands each is = cc
password_holds P users (Some user) row stands each is = kept_in P user.password row is (each user (stands user refl))

secret_holds : (P : PasswordRow → Type 0) (creds : List AppCredRow) (named : Option AppCredRow) (row : PasswordRow) → ((cred : AppCredRow) → named ≡ Some cred → Among creds cred) →
    Each (λ (cred : AppCredRow). P cred.secret) creds → option_map (λ (cred : AppCredRow). cred.secret) named ≡ Some row → P row
secret_holds P creds None row stands each is = cc
secret_holds P creds (Some cred) row stands each is = let same : cred.secret ≡ row = cc in subst P same (each cred (stands cred refl))

named_in_domain : (rows : Rows) (name : Text) (domain : Option DomainRow) (user : UserRow) →
    option_and_then (λ (d : DomainRow). find (is_user_named d.id name) rows.users) domain ≡ Some user → Among rows.users user
named_in_domain rows name None user is = cc
named_in_domain rows name (Some domain) user is = (found_passes (is_user_named domain.id name) rows.users user is).0

user_stands : (rows : Rows) (named : UserNamed) (user : UserRow) → user_in rows named ≡ Some user → Among rows.users user
user_stands rows (user_named.Id id) user is = found_is_among (λ (r : UserRow). r.id) id rows.users user is
user_stands rows (user_named.Name name domain) user is = named_in_domain rows name (domain_in rows domain) user is

named_of_user : (rows : Rows) (name : Text) (user : Option UserRow) (cred : AppCredRow) →
    option_and_then (λ (u : UserRow). cred_named u.id name rows.app_creds) user ≡ Some cred → Among rows.app_creds cred
named_of_user rows name None cred is = cc
named_of_user rows name (Some user) cred is = (found_passes (is_cred_named user.id name) rows.app_creds cred is).0

cred_stands : (rows : Rows) (named : CredNamed) (cred : AppCredRow) → cred_in rows named ≡ Some cred → Among rows.app_creds cred
cred_stands rows (cred_named_by.Id id) cred is = found_is_among (λ (r : AppCredRow). r.id) id rows.app_creds cred is
cred_stands rows (cred_named_by.Name name user) cred is = named_of_user rows name (user_in rows user) cred is

module _ (P : PasswordRow → Type 0) (rows : Rows) (users : Each (λ (user : UserRow). IfSome user.password P) rows.users)
    (creds : Each (λ (cred : AppCredRow). P cred.secret) rows.app_creds) where
  shown_holds : (by : Proof) (row : PasswordRow) → kept_of rows by ≡ Some row → P row
  shown_holds (proof.Password user password) row is = password_holds P rows.users (user_in rows user) row (user_stands rows user) users is
  shown_holds (proof.AppCred named secret) row is = secret_holds P rows.app_creds (cred_in rows named) row (cred_stands rows named) creds is
  shown_holds (proof.Both user password coded code) row is = password_holds P rows.users (user_in rows user) row (user_stands rows user) users is
  shown_holds (proof.Token text) row is = cc
  shown_holds (proof.Totp user code) row is = cc

  -- what holds of all that is kept holds of what a command tests against
  tested_holds : (asked : Command) (row : PasswordRow) → IsTestedRow rows asked row → P row
  tested_holds asked row (inl (body, is, keeps)) = shown_holds body.proof row keeps
  tested_holds asked row (inr (id, original, new, is, keeps)) =
      password_holds P rows.users (user_of id rows.users) row (found_is_among (λ (r : UserRow). r.id) id rows.users) users keeps

whole_salt : (drawn : Drawn) → IsDraw drawn → has_drawn drawn ≡ true → length (salt drawn) ≡ 16
whole_salt (Bytes bytes) draw has = omega (arith, length-take 16 (drop 16 bytes), length-drop 16 bytes, draw)
whole_salt Unused draw has = cc
whole_salt Failed draw has = cc

drawn_salt : (call : Call) (password : Text) → Fit call → IsNewOf call password → has_drawn call.draw ≡ true → length (salt call.draw) ≡ 16
drawn_salt call password fit new has = whole_salt call.draw (subst (λ draws. IsDrawFor draws call.draw) (new_draws call password new) fit.draw) has

-- a step

needed : (P : Lack → Type 0) (a : Attempt Cause Outcome) (lack : Lack) → Asks P a → stepped a ≡ Needs lack → P lack
unfolding Asks
needed P (Go outcome) lack is says = cc
needed P (Stop why) lack is says = cc
needed P (Lacks asked) lack is says = let same : asked ≡ lack = cc in subst P same is

in_range : (known : Known) (S : State) (moment : ℕ) (call : Call) → IsOrderly S → Fit call → ChecksAsk (IsLack S call) known (raised S moment) call
in_range known S moment call old fit = record {
  token = λ text of. asks_opens (IsLack S call) known S.ring.held text (λ some. (some, among_lacking known text S.ring.held));
  tested = λ row password tested of. asks_tested (IsLack S call) known row password (λ unknown. (
    record { row = row; tested = tested; salt_is = refl; rounds_are = refl },
    tested_holds (λ (kept : PasswordRow). AreRounds kept.rounds) S.rows (λ user among. (old.rows.people.users_range user among).1)
        (λ cred among. (old.rows.credentials.app_creds cred among).rounds) call.command row tested,
  ));
  fresh = λ password of has. asks_fresh (IsLack S call) known (raised S moment) call.draw password (λ unknown.
      (refl, drawn_salt call password fit of has, refl, old.settings.rounds));
}

pub lacks_in_range : LacksAreInRange
unfolding step_at
lacks_in_range known S moment call lack old fit says =
    needed (IsLack S call) (checked known (raised S moment) moment call) lack
    (asks_checked (IsLack S call) known (raised S moment) call (in_range known S moment call old fit) moment) says

pub kept_salts_whole : KeptSaltsAreWhole
kept_salts_whole known S moment call salt rounds old salted fit says =
    let kept = (lacks_in_range known S moment call (Stored salt rounds) old fit says).0 in
    subst (λ (bytes : List ℕ). length bytes ≡ 16) kept.salt_is
    (tested_holds (λ (row : PasswordRow). length row.salt ≡ 16) S.rows salted.users salted.app_creds call.command kept.row kept.tested)

not_known : (known : Known) (S : State) (call : Call) → ChecksAsk (IsUnknown known call) known S call
not_known known S call = record {
  token = λ text of. asks_opens (IsUnknown known call) known S.ring.held text (λ some. (text, of, unknown known text S.ring.held));
  tested = λ row password tested of. asks_tested (IsUnknown known call) known row password (λ unknown. (password, of, unknown));
  fresh = λ password of has. asks_fresh (IsUnknown known call) known S call.draw password (λ unknown. (password, of, unknown));
}

pub lacks_unknown : LacksAreUnknown
unfolding step_at
lacks_unknown known S moment call lack says =
    needed (IsUnknown known call) (checked known (raised S moment) moment call) lack
    (asks_checked (IsUnknown known call) known (raised S moment) call (not_known known (raised S moment) call) moment) says

-- with all facts

replies_as : (says : Stepped) → ((lack : Lack) → says ≡ Needs lack → ⊥) → says ≡ Replies (reply_of says) (change_of says)
replies_as (Replies told what) never = refl
replies_as (Needs lack) never = absurd (never lack refl)

pub answers_are_replies : AnswersAreReplies
unfolding answer
answers_are_replies f call = replies_as _ (all_facts (replay f) (moment_of (replay f).high call.reading) call)

-- a command tests one password or secret, of which one salt is kept

some_same : {X : Type 0} (x y : X) → Some x ≡ Some y → x ≡ y
some_same x y is = cc

one_tested : (rows : Rows) (asked : Command) (row other : PasswordRow) → IsTestedRow rows asked row → IsTestedRow rows asked other → row ≡ other
one_tested rows asked row other (inl (body, is, keeps)) (inl (body', was, keeps')) =
    let logins : command.Login body ≡ command.Login body' = sym is ∙ was in
    let bodies : body ≡ body' = cc in
    some_same row other (sym keeps ∙ ap (λ (b : LoginBody). kept_of rows b.proof) bodies ∙ keeps')
one_tested rows asked row other (inl (body, is, keeps)) (inr (id, original, new, was, keeps')) = absurd (cc)
one_tested rows asked row other (inr (id, original, new, is, keeps)) (inl (body, was, keeps')) = absurd (cc)
one_tested rows asked row other (inr (id, original, new, is, keeps)) (inr (id', original', new', was, keeps')) =
    let same : id ≡ id' = cc in
    some_same row other (sym keeps ∙ ap (λ (k : Id). password_in (user_of k rows.users)) same ∙ keeps')

pub one_kept : (rows : Rows) (asked : Command) (salt salt' : List ℕ) (rounds rounds' : ℕ) → IsKept rows asked salt rounds → IsKept rows asked salt' rounds' →
    (salt ≡ salt') × (rounds ≡ rounds')
one_kept rows asked salt salt' rounds rounds' a b =
    let row : a.row ≡ b.row = one_tested rows asked a.row b.row a.tested b.tested in
    (sym a.salt_is ∙ ap (λ (r : PasswordRow). r.salt) row ∙ b.salt_is, sym a.rounds_are ∙ ap (λ (r : PasswordRow). r.rounds) row ∙ b.rounds_are)
