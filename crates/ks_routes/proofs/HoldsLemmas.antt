-- What holds of each command that is asked for.
use Rattle.std.proofs.Common.{Option, Some, None}
use Rattle.std.specs.Prelude.{IfSome}
use Rattle.ks_base.specs.Rows.{Id, Text}
use Rattle.ks_machine.specs.declared.command.Command.{Command}
use Rattle.ks_routes.specs.declared.routed.Routed.{Routed}
use Rattle.ks_routes.specs.declared.routed.Routed.TheVariants as routed
use Rattle.ks_routes.specs.Asked.{over, unless_lacking, with_id}

-- this holds of the command, where one is asked for
abbrev pub IfCommand : (Command → Type 0) → Routed → Type 0
IfCommand P (routed.Command what) = P what
IfCommand P (routed.Refused fault) = Unit {0}
IfCommand P routed.NoRoute = Unit {0}
IfCommand P (routed.NoMethod methods) = Unit {0}
IfCommand P routed.Memory = Unit {0}

pub over_holds : (P : Command → Type 0) {A : Type 0} (named : Option A) (asks : A → Command) → IfSome named (λ a. P (asks a)) → IfCommand P (over named asks)
over_holds P (Some a) asks are = are
over_holds P None asks are = tt

pub plain_holds : (P : Command → Type 0) {A : Type 0} (named : Option A) (asks : A → Command) → ((a : A) → P (asks a)) → IfCommand P (over named asks)
plain_holds P (Some a) asks are = are a
plain_holds P None asks are = tt

pub with_holds : (P : Command → Type 0) (named : Option Id) (asks : Id → Routed) → ((a : Id) → IfCommand P (asks a)) → IfCommand P (with_id named asks)
with_holds P (Some a) asks is = is a
with_holds P None asks is = tt

pub lacking_holds : (P : Command → Type 0) (lacking : Option Text) (asks : Command) → P asks → IfCommand P (unless_lacking lacking asks)
lacking_holds P (Some name) asks is = tt
lacking_holds P None asks is = is
