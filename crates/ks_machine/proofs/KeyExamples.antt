-- Keys, openings, listings and deletions on the state of the examples, computed.
use Rattle.std.proofs.Common.{◌≡◌, refl}
use Rattle.std.specs.Prelude.{ℕ, Bool, true, false, List, [], ◌∷◌, ◌++◌, replicate, Option, Some, None, codes}
use Rattle.ks_base.specs.declared.events.Revoke.TheVariants as revoke
use Rattle.ks_base.specs.declared.faults.KeysFault.TheVariants as keys
use Rattle.ks_base.specs.declared.faults.LoadFault.TheVariants as load
use Rattle.ks_base.specs.declared.grants.Actor.TheVariants as actor
use Rattle.ks_base.specs.declared.grants.GrantRow.{GrantRow}
use Rattle.ks_base.specs.declared.grants.Target.{Target}
use Rattle.ks_base.specs.declared.grants.Target.TheVariants as target
use Rattle.ks_base.specs.declared.key.Key.{Key}
use Rattle.ks_base.specs.declared.kinds.Kind.TheVariants as kind
use Rattle.ks_base.specs.declared.receipt.Drawn.TheVariants.{Failed}
use Rattle.ks_base.specs.declared.rows.ProjectRow.{ProjectRow}
use Rattle.ks_base.specs.declared.shapes.ShapeFault.TheVariants as shape
use Rattle.ks_base.specs.Rows.{Id, Text}
use Rattle.ks_machine.specs.declared.body_out.BodyOut.{BodyOut}
use Rattle.ks_machine.specs.declared.body_out.BodyOut.TheVariants as body
use Rattle.ks_machine.specs.declared.call.Call.{Call}
use Rattle.ks_machine.specs.declared.call.FolderRead.{FolderRead}
use Rattle.ks_machine.specs.declared.call.FolderRead.TheVariants as folder
use Rattle.ks_machine.specs.declared.cause.Cause.TheVariants as cause
use Rattle.ks_machine.specs.declared.command.Command.{Command}
use Rattle.ks_machine.specs.declared.command.Command.TheVariants as command
use Rattle.ks_machine.specs.declared.reply.Reply.TheVariants as reply
use Rattle.ks_machine.specs.declared.row_kind.RowKind.TheVariants as row_kind
use Rattle.ks_machine.specs.declared.settings.OpenFault.TheVariants as open_fault_is
use Rattle.ks_machine.specs.Openings.{PlainOpening}
use Rattle.ks_machine.specs.Opened.{open_fault, opened_state}
use Rattle.ks_machine.specs.States.{State}
use Rattle.ks_machine.specs.Steps.{Stepped, Replies, Needs, step}
use Rattle.ks_machine.proofs.Examples.{ann, bob, call, cause_of, ended, id_of_9, known, o1, password_login, run, start, trusts_ann}
use Rattle.ks_machine.proofs.TheMachine.{the_machine}

-- keys

abbrev key : ℕ → Key
key byte = record { signing = replicate 16 byte; encryption = replicate 16 byte }

abbrev with_ring : Bool → List (ℕ × Key) → State
with_ring in_folder ring = opened_state (record o1 { settings = record o1.settings { folder = in_folder }; ring = ring })

abbrev told_of : Stepped → Option BodyOut
told_of (Replies (reply.Ok told) what) = Some told
told_of (Replies (reply.Refused why) what) = None
told_of (Needs lack) = None

abbrev loads : FolderRead → Call
loads read = record (call command.LoadKeys ann) { folder = read }

-- keys of the file are rotated and not loaded, those of the folder loaded and not rotated; the end of indices; a folder that fails is
-- told before who asks
by_mode :
    cause_of (step known start (call command.RotateKeys ann))
    ∷ cause_of (step known start (loads (folder.Keys ((0, key 1) ∷ []))))
    ∷ cause_of (step known (with_ring true ((0, key 1) ∷ [])) (call command.RotateKeys ann))
    ∷ cause_of (step known (with_ring true ((0, key 1) ∷ [])) (loads (folder.Keys ((0, key 1) ∷ (1, key 2) ∷ []))))
    ∷ cause_of (step known (with_ring true ((0, key 1) ∷ [])) (loads (folder.Fault (keys.BadKey 5))))
    ∷ cause_of (step known (with_ring true ((0, key 1) ∷ [])) (record (loads (folder.Fault keys.Failed)) { caller = None }))
    ∷ cause_of (step known start (record (loads (folder.Fault keys.Failed)) { caller = None }))
    ∷ cause_of (step known (with_ring false ((999999999, key 1) ∷ [])) (call command.RotateKeys ann))
    ∷ cause_of (step known start (record (call command.RotateKeys None) { draw = Failed }))
    ∷ cause_of (step known start (record (call (password_login (codes "ann") (codes "wrong")) None) { draw = Failed }))
    ∷ []
    ≡ None ∷ Some cause.KeyMode ∷ Some cause.KeyMode ∷ None ∷ Some (cause.Keys (keys.BadKey 5)) ∷ Some cause.KeyDir ∷ Some cause.KeyDir
    ∷ Some (cause.Keys keys.IndexEnd) ∷ Some cause.Random ∷ Some cause.Random ∷ []
unfolding the_machine
by_mode = refl

-- after a rotation the staged key seals, and a new one is staged
rotated : told_of (step known start (call command.RotateKeys ann)) ≡ Some (body.Keys (0 ∷ 1 ∷ 2 ∷ []) 2)
unfolding the_machine
rotated = refl

-- openings that are refused, each by its first cause

abbrev project : Text → Text → Text → Bool → ProjectRow
project id parent name enabled = record { id = id; domain = codes "default"; parent = parent; name = name; description = []; enabled = enabled }

abbrev with_projects : List ProjectRow → PlainOpening
with_projects projects = record o1 { projects = projects; assignments = [] }

abbrev granted_at : Target → Id → GrantRow
granted_at at role = record { actor = actor.User (codes "bobby"); target = at; inherited = false; role = role }

refused_openings :
    open_fault (record o1 { roles = o1.roles ++ o1.roles })
    ∷ open_fault (record o1 { roles = record { id = codes "r-2"; name = codes "admin"; description = [] } ∷ o1.roles })
    ∷ open_fault (with_projects (project (codes "p1") (codes "default") (codes "1") true ∷ project (codes "p2") (codes "p3") (codes "2") true ∷ project (codes "p3") (codes "default") (codes "3") true ∷ []))
    ∷ open_fault (record o1 { assignments = granted_at (target.Project (codes "p9")) (codes "zed") ∷ [] })
    ∷ open_fault (record o1 { assignments = granted_at (target.Domain (codes "default")) (codes "zed") ∷ [] })
    ∷ open_fault (with_projects (
    project (codes "p1") (codes "default") (codes "1") true ∷ project (codes "p2") (codes "p1") (codes "2") true ∷ project (codes "p3") (codes "p2") (codes "3") true ∷
    project (codes "p4") (codes "p3") (codes "4") true ∷ project (codes "p5") (codes "p4") (codes "5") true ∷ project (codes "p6") (codes "p5") (codes "6") true ∷ []))
    ∷ open_fault (with_projects (project (codes "p1") (codes "default") (codes "1") false ∷ project (codes "p2") (codes "p1") (codes "2") false ∷ []))
    ∷ open_fault (record o1 { implications = record { prior = codes "r-member"; implied = codes "r-admin" } ∷ [] })
    ∷ open_fault (record o1 { ring = [] })
    ∷ open_fault (record o1 { ring = (1, key 1) ∷ (1, key 2) ∷ [] })
    ∷ []
    ≡ Some (open_fault_is.IdRepeated kind.Role (codes "r-admin"))
    ∷ Some (open_fault_is.Name kind.Role (codes "r-2"))
    ∷ Some (open_fault_is.Absent kind.Project (codes "p3"))
    ∷ Some (open_fault_is.Absent kind.Project (codes "p9"))
    ∷ Some (open_fault_is.Absent kind.Role (codes "zed"))
    ∷ Some (open_fault_is.TooDeep (codes "p6"))
    ∷ Some (open_fault_is.DisabledAbove (codes "p1"))
    ∷ Some (open_fault_is.Prohibited (codes "r-admin"))
    ∷ Some (open_fault_is.Ring load.Empty)
    ∷ Some (open_fault_is.Ring (load.Repeated 1))
    ∷ []
unfolding the_machine
refused_openings = refl

-- the deletion of a domain: it is told first, then its projects and users, and then the trusts of these

abbrev second : PlainOpening
second = record o1 {
  domains = o1.domains ++ record { id = codes "d2"; name = codes "Second"; description = []; enabled = false } ∷ [];
  projects = o1.projects ++ record { id = codes "p2"; domain = codes "d2"; parent = codes "d2"; name = codes "2"; description = []; enabled = true } ∷ [];
  users = o1.users ++ record { id = codes "zoe"; domain = codes "d2"; name = codes "zoe"; enabled = true; password = None } ∷ [];
}

abbrev trusts_zoe : Command
trusts_zoe = by_command trusts_ann
  where
    by_command : Command → Command
    by_command (command.CreateTrust asked) = command.CreateTrust (record asked { trustee = codes "zoe" })
    by_command other = other

domain_goes :
    ended (opened_state second) (
    call trusts_zoe bob ∷
    call (command.Delete row_kind.Domain (codes "default")) ann ∷
    call (command.Delete row_kind.Domain (codes "d2")) ann ∷ [])
    ≡ revoke.Domain (codes "d2") ∷ revoke.Project (codes "p2") ∷ revoke.User (codes "zoe") ∷ revoke.Trust id_of_9 ∷ []
unfolding the_machine
domain_goes = refl

-- effective assignments of a user, and the grants, each with filters

abbrev listed : List (Text × Text) → Call
listed fields = call (command.Assignments (record { fields = fields })) ann

abbrev effective : List (Text × Text) → List (Text × Text)
effective fields = (codes "effective", codes "True") ∷ fields

abbrev bob_on_demo : GrantRow
bob_on_demo = granted_at (target.Project (codes "demo-id")) (codes "r-member")

abbrev bob_on_system : GrantRow
bob_on_system = granted_at target.System (codes "r-member")

abbrev assigned : List GrantRow → Option BodyOut
assigned rows = Some (body.Assignments rows (codes "/v3/role_assignments"))

abbrev on_system : State
on_system = run start (call (command.Grant bob_on_system) ann)

effective_assignments :
    told_of (step known on_system (listed (effective ((codes "user.id", codes "bobby") ∷ []))))
    ∷ told_of (step known on_system (listed (effective ((codes "user.id", codes "bobby") ∷ (codes "scope.system", codes "all") ∷ []))))
    ∷ told_of (step known on_system (listed (effective ((codes "user.id", codes "bobby") ∷ (codes "scope.project.id", codes "demo-id") ∷ []))))
    ∷ told_of (step known on_system (listed (effective ((codes "user.id", codes "bobby") ∷ (codes "role.id", codes "r-admin") ∷ []))))
    ∷ told_of (step known on_system (listed (effective ((codes "user.id", codes "bobby") ∷ (codes "group.id", codes "g") ∷ []))))
    ∷ told_of (step known on_system (listed ((codes "user.id", codes "bobby") ∷ (codes "scope.system", codes "none") ∷ [])))
    ∷ told_of (step known on_system (listed ((codes "scope.domain.id", codes "default") ∷ [])))
    ∷ told_of (step known on_system (listed ((codes "effective", codes "0") ∷ (codes "user.id", codes "bobby") ∷ [])))
    ∷ []
    ≡ assigned (bob_on_system ∷ bob_on_demo ∷ [])
    ∷ assigned (bob_on_system ∷ [])
    ∷ assigned (bob_on_demo ∷ [])
    ∷ assigned []
    ∷ assigned []
    ∷ assigned []
    ∷ assigned []
    ∷ assigned (bob_on_system ∷ bob_on_demo ∷ [])
    ∷ []
unfolding the_machine
effective_assignments = refl

-- what a request lacks is told before who asks
lacking :
    cause_of (step known start (record (listed (effective [])) { caller = None }))
    ∷ cause_of (step known start (record (call (command.Validate false) None) { subject = None }))
    ∷ []
    ≡ Some (cause.Shape (shape.Missing (codes "user.id"))) ∷ Some (cause.Shape (shape.Missing (codes "X-Subject-Token"))) ∷ []
unfolding the_machine
lacking = refl
