-- What requests ask for is in range, and whole.
use Rattle.std.specs.Prelude.{◌≡◌, None}
use Rattle.ks_http.specs.declared.request.Request.{Request}
use Rattle.ks_machine.specs.declared.command.Command.{Command}
use Rattle.ks_machine.specs.Actions.{requirements}
use Rattle.ks_machine.specs.Fit.{AreFields}
use Rattle.ks_machine.specs.Steps.{lacking_of}
use Rattle.ks_routes.specs.declared.routed.Routed.TheVariants as routed
use Rattle.ks_routes.specs.Routes.{command_of}

-- law: the fields of each command that a request makes are in range
abbrev pub CommandsAreInRange : Type 0
CommandsAreInRange = (request : Request) (what : Command) → command_of request ≡ routed.Command what → AreFields what

-- law: the machine finds no lack in a command that a request makes: its token and the user that it names are there
abbrev pub CommandsAreWhole : Type 0
CommandsAreWhole =
    (request : Request) (what : Command) → command_of request ≡ routed.Command what → lacking_of (requirements what) request.subject ≡ None
