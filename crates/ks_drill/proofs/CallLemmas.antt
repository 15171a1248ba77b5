-- The calls of a drill are fit.
use Rattle.std.proofs.Common.{◌≡◌, ℕ, Bool, true, false, Option, sym, subst}
use Rattle.ks_base.specs.declared.receipt.Drawn.{Drawn}
use Rattle.ks_base.specs.Rows.{Text}
use Rattle.ks_machine.specs.declared.call.FolderRead.TheVariants as folder
use Rattle.ks_machine.specs.declared.command.Command.{Command}
use Rattle.ks_machine.specs.Actions.{requirements}
use Rattle.ks_machine.specs.Fit.{Fit, IsDraw, IsDrawFor, IsFolderFor}
use Rattle.ks_drill.specs.Scripts.{IsAskable, call_of, draw_of}

draw_for : (draws : Bool) (drawn : Drawn) → IsDraw drawn → IsDrawFor draws drawn
draw_for true drawn is = is
draw_for false drawn is = tt

pub fit_of : (number : ℕ) (command : Command) (caller subject : Option Text) → IsAskable command → IsDraw (draw_of number) → Fit (call_of number command caller subject)
fit_of number command caller subject askable long = record {
  draw = draw_for (requirements command).draws (draw_of number) long;
  folder = subst (λ loads. IsFolderFor loads folder.Unused) (sym askable.loads) tt;
  fields = askable.fields;
}
