-- How many rows of a kind may stand.
-- Source: own limits.
use Rattle.std.specs.Prelude.{ℕ}
use Rattle.ks_base.specs.declared.kinds.Kind.{Kind}
use Rattle.ks_base.specs.declared.kinds.Kind.TheVariants as kind
use Rattle.ks_base.specs.declared.limits.TheConstants.{DOMAINS, PROJECTS, USERS, GROUPS, MEMBERS, ROLES, IMPLICATIONS, GRANTS, TRUSTS, EVENTS, REGIONS, SERVICES, ENDPOINTS, APP_CREDS, SECRETS}

-- | how many rows of a kind may stand; the numbers are the constants of `src/limits.rt`
abbrev pub limit : Kind → ℕ
limit kind.Domain = DOMAINS
limit kind.Project = PROJECTS
limit kind.User = USERS
limit kind.Group = GROUPS
limit kind.Role = ROLES
limit kind.Implication = IMPLICATIONS
limit kind.Grant = GRANTS
limit kind.Member = MEMBERS
limit kind.Trust = TRUSTS
limit kind.Event = EVENTS
limit kind.Region = REGIONS
limit kind.Service = SERVICES
limit kind.Endpoint = ENDPOINTS
limit kind.AppCred = APP_CREDS
limit kind.Secret = SECRETS
