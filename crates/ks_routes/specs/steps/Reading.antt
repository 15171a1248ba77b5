-- What was read of a request.
use Rattle.std.specs.Prelude.{◌≡◌, Result, Ok, Err}
use Rattle.ks_base.specs.declared.memory.Memory.{Memory}
use Rattle.ks_base.specs.declared.shapes.ShapeRefusal.{ShapeRefusal}
use Rattle.ks_base.specs.declared.shapes.ShapeRefusal.TheVariants as refusal
use Rattle.ks_machine.specs.declared.command.Command.{Command}
use Rattle.ks_routes.specs.declared.routed.Routed.{Routed}
use Rattle.ks_routes.specs.declared.routed.Routed.TheVariants as routed

-- a command, or want of memory for it
abbrev pub IsAsked : Result Command Memory → Routed → Type 0
IsAsked (Ok command) result = result ≡ routed.Command command
IsAsked (Err memory) result = result ≡ routed.Memory

-- what could not be read of a body
abbrev pub unread_of : ShapeRefusal → Routed
unread_of (refusal.Shape fault) = routed.Refused fault
unread_of refusal.Memory = routed.Memory
