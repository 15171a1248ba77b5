-- The plain machine on small states, computed.
use Rattle.std.proofs.Common.{◌≡◌, refl}
use Rattle.std.specs.Prelude.{ℕ, Bool, map, ◌+◌, true, false, if◌then◌else◌, List, [], ◌∷◌, length, replicate, Option, Some, None, codes}
use Rattle.std.specs.Str.{bytes_eq}
use Rattle.ks_base.specs.declared.faults.TreeFault.TheVariants as tree
use Rattle.ks_base.specs.declared.faults.TrustFault.TheVariants as trust_fault
use Rattle.ks_base.specs.declared.events.Revoke.{Revoke}
use Rattle.ks_base.specs.declared.events.Revoke.TheVariants as revoke
use Rattle.ks_base.specs.declared.grants.Actor.TheVariants as actor
use Rattle.ks_base.specs.declared.grants.Target.TheVariants as target
use Rattle.ks_base.specs.declared.kinds.Kind.TheVariants as kind
use Rattle.ks_base.specs.declared.receipt.Drawn.TheVariants.{Bytes}
use Rattle.ks_base.specs.Rows.{Id, Text}
use Rattle.ks_fernet.specs.declared.opening.OpenAnswer.{OpenAnswer}
use Rattle.ks_fernet.specs.declared.opening.OpenAnswer.TheVariants.{NotText, Yes}
use Rattle.ks_machine.specs.declared.bodies.Made.TheVariants as made
use Rattle.ks_machine.specs.declared.bodies.Named.TheVariants as named
use Rattle.ks_machine.specs.declared.bodies.ProjectNamed.TheVariants as project_named
use Rattle.ks_machine.specs.declared.bodies.Proof.TheVariants as proof
use Rattle.ks_machine.specs.declared.bodies.ScopeIn.TheVariants as scope_in
use Rattle.ks_machine.specs.declared.bodies.UserNamed.TheVariants as user_named
use Rattle.ks_machine.specs.declared.call.Call.{Call}
use Rattle.ks_machine.specs.declared.call.FolderRead.TheVariants as folder
use Rattle.ks_machine.specs.declared.cause.Cause.{Cause}
use Rattle.ks_machine.specs.declared.cause.Cause.TheVariants as cause
use Rattle.ks_machine.specs.declared.cause.ScopeWhy.TheVariants as scope_why
use Rattle.ks_machine.specs.declared.why.Why.TheVariants as why
use Rattle.ks_machine.specs.declared.change.Change.{Change}
use Rattle.ks_machine.specs.declared.command.Command.{Command}
use Rattle.ks_machine.specs.declared.command.Command.TheVariants as command
use Rattle.ks_machine.specs.declared.reply.Reply.TheVariants as reply
use Rattle.ks_machine.specs.declared.row_kind.RowKind.TheVariants as row_kind
use Rattle.ks_machine.specs.Openings.{PlainOpening}
use Rattle.ks_payload.specs.declared.payload.Payload.{Payload}
use Rattle.ks_payload.specs.Payloads.{spelling}
use Rattle.ks_rule.specs.Trees.{always, role}
use Rattle.ks_machine.specs.Attempts.{Keys, Known}
use Rattle.ks_machine.specs.Changes.{apply}
use Rattle.ks_machine.specs.Effective.{roles_at}
use Rattle.ks_machine.specs.Opened.{open_fault, opened_state, rows_opened}
use Rattle.ks_machine.specs.States.{State}
use Rattle.ks_machine.specs.Steps.{Stepped, Replies, Needs, step}
use Rattle.ks_machine.proofs.TheMachine.{the_machine}

abbrev pub moment : ℕ
moment = 499162800

-- ann is admin on demo, bob is a member there
abbrev pub o1 : PlainOpening
o1 = record {
  settings = record { url = codes "http://127.0.0.1:5000"; life = 3600; rounds = 1; max_keys = 3; folder = false };
  rules = record { name = codes "default"; tree = role (codes "admin") } ∷ record { name = codes "identity:create_trust"; tree = always } ∷ [];
  ring = (0, record { signing = replicate 16 1; encryption = replicate 16 2 }) ∷ (1, record { signing = replicate 16 3; encryption = replicate 16 4 }) ∷ [];
  domains = record { id = codes "default"; name = codes "Default"; description = []; enabled = true } ∷ [];
  projects = record { id = codes "demo-id"; domain = codes "default"; parent = codes "default"; name = codes "demo"; description = []; enabled = true } ∷ [];
  users =
      record { id = codes "ann"; domain = codes "default"; name = codes "ann"; enabled = true; password = Some (record { salt = replicate 16 5; rounds = 1; digest = codes "secret" }) } ∷
      record { id = codes "bobby"; domain = codes "default"; name = codes "bob"; enabled = true; password = Some (record { salt = replicate 16 6; rounds = 1; digest = codes "hunter2" }) } ∷ [];
  groups = [];
  members = [];
  roles = record { id = codes "r-admin"; name = codes "admin"; description = [] } ∷ record { id = codes "r-member"; name = codes "member"; description = [] } ∷ [];
  implications = [];
  regions = [];
  services = [];
  endpoints = [];
  assignments =
      record { actor = actor.User (codes "ann"); target = target.Project (codes "demo-id"); inherited = false; role = codes "r-admin" } ∷
      record { actor = actor.User (codes "bobby"); target = target.Project (codes "demo-id"); inherited = false; role = codes "r-member" } ∷ [];
}

-- tokens of the example are texts that stand for their payloads
abbrev pub payload_for : Id → Payload
payload_for user = record {
  kind = 2;
  methods = 1;
  user = user;
  domain = None;
  project = Some (codes "demo-id");
  trust = None;
  expires = moment + 3600;
  audit = replicate 16 (length user);
  chain = None;
  credential = None;
}

abbrev pub opens_as : Text → OpenAnswer
opens_as text =
    if bytes_eq text (codes "ann-token") then Yes moment (spelling (payload_for (codes "ann")))
    else if bytes_eq text (codes "bob-token") then Yes moment (spelling (payload_for (codes "bobby")))
    else NotText

-- a password is its own digest
abbrev pub known : Known
known = record { answer = λ held text. Some (opens_as text); derive = λ password salt rounds. Some password }

abbrev pub nothing_known : Known
nothing_known = record { answer = λ held text. None; derive = λ password salt rounds. None }

abbrev pub call : Command → Option Text → Call
call asked caller = record {
  command = asked;
  caller = caller;
  subject = Some (codes "bob-token");
  reading = moment;
  draw = Bytes (replicate 64 9);
  folder = folder.Unused;
}

abbrev pub start : State
start = opened_state o1

abbrev pub cause_of : Stepped → Option Cause
cause_of (Replies (reply.Refused why) what) = Some why
cause_of (Replies (reply.Ok told) what) = None
cause_of (Needs lack) = None

abbrev pub change_of : Stepped → Option Change
change_of (Replies told what) = what
change_of (Needs lack) = None

abbrev pub ann : Option Text
ann = Some (codes "ann-token")

abbrev pub bob : Option Text
bob = Some (codes "bob-token")

abbrev pub run : State → Call → State
run S called = by_change (change_of (step known S called))
  where
    by_change : Option Change → State
    by_change None = S
    by_change (Some what) = apply S moment what

abbrev pub password_login : Text → Text → Command
password_login name password = command.Login (record {
  proof = proof.Password (user_named.Name name (named.Id (codes "default"))) password;
  scope = scope_in.Project (project_named.Name (codes "demo") (named.Id (codes "default")));
})

opens_without_fault : open_fault o1 ≡ None
unfolding the_machine
opens_without_fault = refl

-- a wrong password, and an unknown name
wrong_password : cause_of (step known start (call (password_login (codes "ann") (codes "wrong")) None)) ≡ Some cause.Credentials
unfolding the_machine
wrong_password = refl

unknown_name : cause_of (step known start (call (password_login (codes "nobody") (codes "secret")) None)) ≡ Some cause.Credentials
unfolding the_machine
unknown_name = refl

right_password : cause_of (step known start (call (password_login (codes "ann") (codes "secret")) None)) ≡ None
unfolding the_machine
right_password = refl

-- what one state after another refuses, and whether it changed
abbrev pub replies : State → List Call → List (Option Cause)
replies S [] = []
replies S (called ∷ more) = cause_of (step known S called) ∷ replies (run S called) more

abbrev pub made_project : Text → Option Id → Command
made_project name parent = command.Create (made.Project None (Some name) None parent None None)

-- a second project of the name; its domain can't be changed; the default domain is enabled; nobody has the id; bob may not list; no token
refusals :
    replies start (
    call (made_project (codes "demo") None) ann ∷
    call (command.Update (codes "demo-id") (made.Project None None (Some (codes "other")) None None None)) ann ∷
    call (command.Delete row_kind.Domain (codes "default")) ann ∷
    call (command.Get row_kind.User (codes "zed")) ann ∷
    call (command.List row_kind.User (record { fields = [] })) bob ∷
    call (command.List row_kind.User (record { fields = [] })) None ∷
    call (command.List row_kind.User (record { fields = [] })) ann ∷ [])
    ≡ Some (cause.NameTaken (codes "demo-id"))
    ∷ Some (cause.Immutable (codes "domain_id"))
    ∷ Some (cause.Tree tree.DomainEnabled)
    ∷ Some (cause.Absent kind.User (codes "zed"))
    ∷ Some (cause.Rule (codes "identity:list_users"))
    ∷ Some cause.NoToken
    ∷ None
    ∷ []
unfolding the_machine
refusals = refl

-- bob ends his token: it is valid no more, and his project scope is as it was
revoked :
    replies start (
    call (command.Validate false) ann ∷
    call command.RevokeToken ann ∷
    call (command.Validate false) ann ∷
    call (password_login (codes "bob") (codes "hunter2")) None ∷ [])
    ≡ None ∷ None ∷ Some (cause.SubjectToken why.Revoked) ∷ None ∷ []
unfolding the_machine
revoked = refl

-- a grant is taken away: bob has no role left at his scope
lost_role :
    replies start (
    call (command.Ungrant (record { actor = actor.User (codes "bobby"); target = target.Project (codes "demo-id"); inherited = false; role = codes "r-member" })) ann ∷
    call (command.Validate false) ann ∷
    call (password_login (codes "bob") (codes "hunter2")) None ∷ [])
    ≡ None ∷ Some (cause.SubjectToken why.Roles) ∷ Some (cause.ScopeRefused scope_why.NoRoles) ∷ []
unfolding the_machine
lost_role = refl

-- without facts the machine asks for what both held keys make of a token
asks_for_keys : step nothing_known start (call (command.Get row_kind.User (codes "zed")) ann) ≡ Needs (Keys start.ring.held)
unfolding the_machine
asks_for_keys = refl

-- bob trusts ann with his role on demo, once
abbrev pub trusts_ann : Command
trusts_ann = command.CreateTrust (record {
  trustor = codes "bobby";
  trustee = codes "ann";
  project = codes "demo-id";
  impersonation = true;
  roles = named.Name (codes "member") ∷ [];
  expires = None;
  remaining = Some 1;
  redelegate = false;
  count = None;
  parent = None;
})

-- the id that the draw of the examples makes
abbrev pub drawn_id : Id
drawn_id = codes "09090909090949098909090909090909"

abbrev pub by_trust : Text → Command
by_trust password = command.Login (record {
  proof = proof.Password (user_named.Id (codes "ann")) password;
  scope = scope_in.Trust drawn_id;
})

-- one use serves one login of the trustee alone
one_use :
    replies start (
    call trusts_ann ann ∷
    call trusts_ann bob ∷
    call (by_trust (codes "wrong")) None ∷
    call (by_trust (codes "secret")) None ∷
    call (by_trust (codes "secret")) None ∷
    call (command.DeleteTrust drawn_id) ann ∷
    call (by_trust (codes "secret")) None ∷ [])
    ≡ Some (cause.Trust trust_fault.NotTrustor)
    ∷ None
    ∷ Some cause.Credentials
    ∷ None
    ∷ Some (cause.Trust trust_fault.Spent)
    ∷ None
    ∷ Some (cause.Trust (trust_fault.Absent drawn_id))
    ∷ []
unfolding the_machine
one_use = refl

-- effective roles: x is granted to a group with bob on the project p1, inherited; x implies y and y implies x

abbrev below : PlainOpening
below = record o1 {
  projects =
      record { id = codes "p1"; domain = codes "default"; parent = codes "default"; name = codes "1"; description = []; enabled = true } ∷
      record { id = codes "p2"; domain = codes "default"; parent = codes "p1"; name = codes "2"; description = []; enabled = true } ∷
      record { id = codes "p3"; domain = codes "default"; parent = codes "p2"; name = codes "3"; description = []; enabled = true } ∷ [];
  groups = record { id = codes "g"; domain = codes "default"; name = codes "g"; description = [] } ∷ [];
  members = record { group = codes "g"; user = codes "bobby" } ∷ [];
  roles = record { id = codes "x"; name = codes "x"; description = [] } ∷ record { id = codes "y"; name = codes "y"; description = [] } ∷ [];
  implications = record { prior = codes "x"; implied = codes "y" } ∷ record { prior = codes "y"; implied = codes "x" } ∷ [];
  assignments = record { actor = actor.Group (codes "g"); target = target.Project (codes "p1"); inherited = true; role = codes "x" } ∷ [];
}

abbrev roles_below : Text → List Id
roles_below project = roles_at (rows_opened below) (codes "bobby") (target.Project project)

opens_below : open_fault below ≡ None
unfolding the_machine
opens_below = refl

below_the_target : roles_below (codes "p3") ≡ codes "x" ∷ codes "y" ∷ []
unfolding the_machine
below_the_target = refl

right_below_it : roles_below (codes "p2") ≡ codes "x" ∷ codes "y" ∷ []
unfolding the_machine
right_below_it = refl

not_on_it : roles_below (codes "p1") ≡ []
unfolding the_machine
not_on_it = refl

not_on_the_domain : roles_at (rows_opened below) (codes "bobby") (target.Domain (codes "default")) ≡ []
unfolding the_machine
not_on_the_domain = refl

-- revocations: what the changes of one call after the other end

abbrev pub ended : State → List Call → List Revoke
ended S [] = map (λ event. event.what) S.events
ended S (called ∷ more) = ended (run S called) more

abbrev pub update_bob : Option Text → Option Bool → Command
update_bob name enabled = command.Update (codes "bobby") (made.User None name None None enabled None)

-- bob is renamed to his own name, disabled, enabled and deleted
bob_ends :
    ended start (
    call (update_bob (Some (codes "bob")) None) ann ∷
    call (update_bob None (Some false)) ann ∷
    call (update_bob None (Some true)) ann ∷
    call (command.Delete row_kind.User (codes "bobby")) ann ∷ [])
    ≡ revoke.User (codes "bobby") ∷ revoke.User (codes "bobby") ∷ []
unfolding the_machine
bob_ends = refl

-- projects lie at most five below their domain, and one with a child stays
abbrev made_below : Text → Text → Command
made_below parent name = command.Create (made.Project None (Some name) None (Some parent) None None)

abbrev pub call_drawing : ℕ → Command → Call
call_drawing byte asked = record (call asked ann) { draw = Bytes (replicate 64 byte) }

-- the ids that such draws make
abbrev pub id_of_9 : Id
id_of_9 = codes "09090909090949098909090909090909"

abbrev pub id_of_8 : Id
id_of_8 = codes "08080808080848088808080808080808"

abbrev pub id_of_7 : Id
id_of_7 = codes "07070707070747078707070707070707"

abbrev pub id_of_6 : Id
id_of_6 = codes "06060606060646068606060606060606"

tree_is_kept :
    replies start (
    call_drawing 9 (made_below (codes "demo-id") (codes "2")) ∷
    call_drawing 8 (made_below id_of_9 (codes "3")) ∷
    call_drawing 8 (made_below id_of_9 (codes "4")) ∷
    call_drawing 7 (made_below id_of_8 (codes "4")) ∷
    call_drawing 6 (made_below id_of_7 (codes "5")) ∷
    call_drawing 5 (made_below id_of_6 (codes "6")) ∷
    call (command.Delete row_kind.Project id_of_8) ann ∷ [])
    ≡ None ∷ None ∷ Some (cause.IdTaken id_of_8) ∷ None ∷ None ∷ Some (cause.Tree tree.TooDeep)
    ∷ Some (cause.Tree (tree.HasChildren id_of_7)) ∷ []
unfolding the_machine
tree_is_kept = refl
