-- Which replies can be told: each moment in them has a text of RFC 3339, whose year has four digits.
-- Source: RFC 3339; Identity API v3.
use Rattle.std.specs.Prelude.{IfSome}
use Rattle.std.specs.List.{AllByRecursion}
use Rattle.ks_base.specs.declared.events.EventRow.{EventRow}
use Rattle.ks_machine.specs.declared.body_out.BodyOut.{BodyOut}
use Rattle.ks_machine.specs.declared.body_out.BodyOut.TheVariants as body
use Rattle.ks_machine.specs.declared.body_out.Row.{Row}
use Rattle.ks_machine.specs.declared.body_out.Row.TheVariants as row
use Rattle.ks_machine.specs.declared.body_out.TokenOut.{TokenOut}
use Rattle.ks_machine.specs.declared.reply.Reply.{Reply}
use Rattle.ks_machine.specs.declared.reply.Reply.TheVariants as reply
use Rattle.ks_machine.specs.Ranges.{IsExpiry}

-- each moment that a reply tells has a text, whose year has four digits
abbrev pub IsTokenTellable : TokenOut → Type 0
IsTokenTellable told = IsExpiry told.issued × IsExpiry told.expires

abbrev pub IsRowTellable : Row → Type 0
IsRowTellable (row.Domain domain) = Unit {0}
IsRowTellable (row.Project project) = Unit {0}
IsRowTellable (row.User user) = Unit {0}
IsRowTellable (row.Group group) = Unit {0}
IsRowTellable (row.Role role) = Unit {0}
IsRowTellable (row.Trust trust roles) = IfSome trust.expires IsExpiry
IsRowTellable (row.Region region) = Unit {0}
IsRowTellable (row.Service service) = Unit {0}
IsRowTellable (row.Endpoint endpoint) = Unit {0}
IsRowTellable (row.AppCred cred roles) = IfSome cred.expires IsExpiry
IsRowTellable (row.Secret secret) = Unit {0}

abbrev pub IsEventTellable : EventRow → Type 0
IsEventTellable event = IsExpiry event.moment

abbrev pub IsBodyTellable : BodyOut → Type 0
IsBodyTellable body.Nothing = Unit {0}
IsBodyTellable body.Version = Unit {0}
IsBodyTellable body.Versions = Unit {0}
IsBodyTellable (body.Token token) = IsTokenTellable token
IsBodyTellable (body.One told made) = IsRowTellable told
IsBodyTellable (body.Many kind rows path) = AllByRecursion IsRowTellable rows
IsBodyTellable (body.Inference prior implied made) = Unit {0}
IsBodyTellable (body.Inferences prior implied) = Unit {0}
IsBodyTellable (body.Grants roles path) = Unit {0}
IsBodyTellable (body.Assignments grants path) = Unit {0}
IsBodyTellable (body.Trusts rows path) = AllByRecursion IsRowTellable rows
IsBodyTellable (body.TrustRoles roles path) = Unit {0}
IsBodyTellable (body.Events events path) = AllByRecursion IsEventTellable events
IsBodyTellable (body.Keys indices sealing) = Unit {0}
IsBodyTellable (body.Catalog services path) = Unit {0}
IsBodyTellable (body.AppCredMade cred roles secret) = IfSome cred.expires IsExpiry
IsBodyTellable (body.AppCreds rows path) = AllByRecursion IsRowTellable rows
IsBodyTellable (body.Secrets rows path) = AllByRecursion IsRowTellable rows

abbrev pub IsTellable : Reply → Type 0
IsTellable (reply.Ok told) = IsBodyTellable told
IsTellable (reply.Refused why) = Unit {0}
