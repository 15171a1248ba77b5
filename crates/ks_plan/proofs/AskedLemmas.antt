-- What a command asks for, and what its checks have then.
use Rattle.std.proofs.Common.{◌≡◌, ℕ, List, sym, ap, subst, ◌∙◌}
use Rattle.ks_base.specs.declared.receipt.Drawn.{Drawn}
use Rattle.ks_base.specs.Rows.{Id, Rows}
use Rattle.ks_machine.specs.Actions.{Requirements, draws_for, requirements}
use Rattle.ks_machine.specs.Attempts.{Known}
use Rattle.ks_machine.specs.declared.bodies.Made.{Made}
use Rattle.ks_machine.specs.declared.call.Call.{Call}
use Rattle.ks_machine.specs.declared.call.FolderRead.{FolderRead}
use Rattle.ks_machine.specs.declared.command.Command.{Command}
use Rattle.ks_machine.specs.declared.command.Command.TheVariants as command
use Rattle.ks_machine.specs.Fit.{IsFolder, IsFolderFor}
use Rattle.ks_machine.specs.Openings.{NamedRule}
use Rattle.ks_machine.specs.States.{State}
use Rattle.ks_machine.specs.Steps.{planned, planned_by}
use Rattle.ks_checks.specs.Plans.{HasBytes}

-- the checks over what is told of the state
pub planned_over : (known : Known) (S : State) (rules : List NamedRule) (rows : Rows) (moment : ℕ) (call : Call) (asked : Requirements) →
    asked ≡ requirements call.command → S.rules ≡ rules → S.rows ≡ rows → planned_by known S rules rows moment call asked ≡ planned known S moment call
unfolding planned
planned_over known S rules rows moment call asked is same_rules same_rows =
    ap (planned_by known S rules rows moment call) is
    ∙ ap (λ held. planned_by known S held rows moment call (requirements call.command)) (sym same_rules)
    ∙ ap (λ held. planned_by known S S.rules held moment call (requirements call.command)) (sym same_rows)

pub bytes_for_update : (asked : Command) (id : Id) (made : Made) (draw : Drawn) → asked ≡ command.Update id made →
    HasBytes (requirements asked).draws draw → HasBytes (draws_for made) draw
unfolding requirements
bytes_for_update asked id made draw is has = let P : Command → Type 0 = λ other. HasBytes (requirements other).draws draw in subst P is has

pub folder_for_load : (asked : Command) (read : FolderRead) → asked ≡ command.LoadKeys → IsFolderFor (requirements asked).loads read → IsFolder read
unfolding requirements
folder_for_load asked read is has = let P : Command → Type 0 = λ other. IsFolderFor (requirements other).loads read in subst P is has
