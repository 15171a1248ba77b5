-- The steps of a drill, one after the other, are its script.
use Rattle.std.proofs.Common.{◌≡◌, ℕ, zero, suc, ◌+◌, ◌<◌, ◌≤◌, false, List, [], ◌∷◌, ◌++◌, length, get_or, drop, Option, None, refl, sym, ap, ◌∙◌, arith, add-one, append_assoc, append-nil}
use Rattle.std.specs.Prelude.{Result, IfOk, codes}
use Rattle.std.proofs.lemmas.Result.{IfOk-weaker}
use Rattle.ks_base.specs.Rows.{Text}
use Rattle.ks_machine.specs.declared.command.Command.{Command}
use Rattle.ks_machine.specs.declared.command.Command.TheVariants as command
use Rattle.ks_machine.specs.declared.reply.Reply.{Reply}
use Rattle.ks_drill.specs.Drill.{checks, drill, ending_if, endings, grant, id_in, line, log_in, member, members, new_project, new_user, role_number, text_in}
use Rattle.ks_drill.specs.Openings.{numbered, role_id, root}
use Rattle.ks_drill.specs.Scripts.{Stage, asks}

pub nothing_left : {A : Type 0} (xs : List A) (i : ℕ) → length xs ≤ i → drop i xs ≡ []
nothing_left [] zero le = refl
nothing_left [] (suc i) le = refl
nothing_left (x ∷ xs) zero le = absurd (omega arith)
nothing_left (x ∷ xs) (suc i) le = nothing_left xs i (omega arith)

-- a call is known by what its parts are
pub asked_as : (command command' : Command) (caller caller' subject subject' : Option Text) (session session' : Stage) (told : Stage × Reply) →
    told ≡ asks command caller subject session → command ≡ command' → caller ≡ caller' → subject ≡ subject' → session ≡ session' →
    asks command' caller' subject' session' ≡ told
asked_as command command' caller caller' subject subject' session session' told is same_command same_caller same_subject same_session =
    sym (is ∙ rw (same_command, same_caller, same_subject, same_session) refl)

pub member_by : (caller : Option Text) (start i : ℕ) (session first second third : Stage) (project user granted : Reply) (told : Stage × Reply) →
    asks (new_project i) caller None session ≡ (first, project) →
    asks (new_user i) caller None first ≡ (second, user) →
    asks (grant (id_in user) (id_in project) (role_id (role_number start i))) caller None second ≡ (third, granted) →
    told ≡ asks (log_in (id_in user) (numbered (codes "w") i) (id_in project)) None None third →
    told ≡ member caller start i session
unfolding member
member_by caller start i session first second third project user granted told one two three four = rw (one, two, three) four

pub member_ok : {E : Type 0} (caller : Option Text) (start i : ℕ) (session first second third last : Stage) (project user granted : Reply) (logging : Command) (told : Result (Stage × Reply) E) →
    asks (new_project i) caller None session ≡ (first, project) →
    asks (new_user i) caller None first ≡ (second, user) →
    asks (grant (id_in user) (id_in project) (role_id (role_number start i))) caller None second ≡ (third, granted) →
    logging ≡ log_in (id_in user) (numbered (codes "w") i) (id_in project) → last ≡ third →
    IfOk told (λ made. made ≡ asks logging None None last) → IfOk told (λ made. made ≡ member caller start i session)
member_ok caller start i session first second third last project user granted logging told one two three same_command same_session four =
    IfOk-weaker told (λ made. made ≡ asks logging None None last) (λ made. made ≡ member caller start i session)
    (λ made is. member_by caller start i session first second third project user granted made one two three (is ∙ rw (same_command, same_session) refl)) four

pub members_none : (caller : Option Text) (start : ℕ) (session : Stage) → members caller start 0 session ≡ (session, [])
unfolding members
members_none caller start session = refl

pub members_more : (caller : Option Text) (start i : ℕ) (session before after : Stage) (logins more : List Reply) (login : Reply) →
    members caller start i session ≡ (before, logins) → member caller start i before ≡ (after, login) → more ≡ logins ++ login ∷ [] →
    members caller start (i + 1) session ≡ (after, more)
unfolding members
members_more caller start i session before after logins more login so_far next pushed = rw (add-one, so_far, next, pushed) refl

pub ended_more : (caller : Option Text) (start i : ℕ) (session next : Stage) (rest more : List Reply) (login : Reply) →
    rest ≡ login ∷ more → next ≡ (ending_if caller start i login session).0 →
    (endings caller start (i + 1) more next).0 ≡ (endings caller start i rest session).0
unfolding endings
ended_more caller start i session next rest more login split ended = rw (split, ended) refl

pub ended_all : (caller : Option Text) (start i : ℕ) (session : Stage) (rest : List Reply) → rest ≡ [] → (endings caller start i rest session).0 ≡ session
unfolding endings
ended_all caller start i session rest none = rw none refl

pub checked_more : (caller : Option Text) (session next : Stage) (found more rest left : List Reply) (login check : Reply) →
    rest ≡ login ∷ left → asks (command.Validate false) caller (text_in login) session ≡ (next, check) → more ≡ found ++ check ∷ [] →
    more ++ (checks caller left next).1 ≡ found ++ (checks caller rest session).1
unfolding checks
checked_more caller session next found more rest left login check split told pushed =
    rw (split, told, pushed) (append_assoc found (check ∷ []) (checks caller left next).1)

pub checked_all : (caller : Option Text) (session : Stage) (found rest : List Reply) → rest ≡ [] → found ++ (checks caller rest session).1 ≡ found
unfolding checks
checked_all caller session found rest none = rw none (append-nil found)

pub drill_by : (start count : ℕ) (session first second third : Stage) (login : Reply) (logins found : List Reply) (made : Text) →
    asks (log_in root root root) None None session ≡ (first, login) →
    members (text_in login) start count first ≡ (second, logins) →
    third ≡ (endings (text_in login) start 0 logins second).0 →
    found ≡ (checks (text_in login) logins third).1 →
    made ≡ line start count logins found →
    made ≡ (drill start count session).1
unfolding drill
drill_by start count session first second third login logins found made one two three four five =
    rw (one, two) (five ∙ ap (λ replies. line start count logins replies) (four ∙ ap (λ stage. (checks (text_in login) logins stage).1) three))

pub play_ok : {E : Type 0} (start count : ℕ) (session begun first entered second third : Stage) (command : Command) (login : Reply) (caller : Option Text)
    (logins one two three found told : List Reply) (made : Result Text E) →
    (first, login) ≡ asks command None None begun → command ≡ log_in root root root → begun ≡ session →
    caller ≡ text_in login → entered ≡ first → (second, logins) ≡ members caller start count entered →
    one ≡ logins → third ≡ (endings caller start 0 one second).0 →
    two ≡ logins → found ≡ (checks caller two third).1 →
    three ≡ logins → told ≡ found → IfOk made (λ text. text ≡ line start count three told) →
    IfOk made (λ text. text ≡ (drill start count session).1)
play_ok start count session begun first entered second third command login caller logins one two three found told made asked is_login is_begun
    is_caller is_entered makes is_one ends is_two checking is_three is_told says =
    IfOk-weaker made (λ text. text ≡ line start count three told) (λ text. text ≡ (drill start count session).1)
    (λ text is.
    drill_by start count session first second third login logins found text
    (asked_as command (log_in root root root) None None None None begun session (first, login) asked is_login refl refl is_begun)
    (sym (makes ∙ rw (is_caller, is_entered) refl)) (ends ∙ rw (is_caller, is_one) refl) (checking ∙ rw (is_caller, is_two) refl)
    (is ∙ rw (is_three, is_told) refl))
    says
