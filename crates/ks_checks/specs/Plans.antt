-- What a plan gives: what the machine's checks say, read from Rust's values.
use Rattle.std.specs.Prelude.{◌≡◌, Bool, true, false, [], Some, None, Result, Ok, Err}
use Rattle.ks_base.specs.declared.receipt.Drawn.{Drawn}
use Rattle.ks_base.specs.declared.receipt.Drawn.TheVariants.{Bytes, Failed, Unused}
use Rattle.ks_machine.specs.declared.cause.Cause.{Cause}
use Rattle.ks_machine.specs.Attempts.{Attempt, Go, Stop, Lacks, Lack, Keys, Stored, Fresh}
use Rattle.ks_machine.specs.Outcomes.{Outcome}
use Rattle.ks_machine.specs.Validity.{Valid}
use Rattle.ks_checks.specs.declared.caller.Caller.{Caller}
use Rattle.ks_checks.specs.declared.plan.Plan.{Plan}
use Rattle.ks_checks.specs.declared.halt.Halt.{Halt}
use Rattle.ks_checks.specs.declared.halt.Halt.TheVariants as halt
use Rattle.ks_checks.specs.declared.halt.Needs.{Needs}

-- a plan is the outcome of a command
abbrev pub outcome_of : Plan → Outcome
outcome_of plan = record { told = plan.told; change = plan.change }

-- a caller is what its token says
abbrev pub valid_of : Caller → Valid
valid_of caller = record { payload = caller.payload; issued = caller.issued; roles = caller.roles }

-- | what the first check without its fact lacks, of which exactly one of three is named
abbrev pub Names : Needs → Lack → Type 0
Names needs (Keys keys) = (needs.keys ≡ keys) × (needs.stored ≡ None) × (needs.fresh ≡ None)
Names needs (Stored salt rounds) = (needs.keys ≡ []) × (needs.stored ≡ Some (salt, rounds)) × (needs.fresh ≡ None)
Names needs (Fresh salt rounds) = (needs.keys ≡ []) × (needs.stored ≡ None) × (needs.fresh ≡ Some (salt, rounds))

-- an answer of the code is what the definition's checks say, exactly: its value, the first check that fails, or what the first check
-- without its fact lacks; of want of memory nothing is said
abbrev pub Gives : {X Y : Type 0} → (X → Y) → Result X Halt → Attempt Cause Y → Type 0
Gives view (Ok x) said = said ≡ Go (view x)
Gives view (Err (halt.Refused cause)) said = said ≡ Stop cause
Gives view (Err (halt.Needs needs)) said = (lack : Lack) × Names needs lack × (said ≡ Lacks lack)
Gives view (Err halt.Memory) said = Unit {0}

-- the same of a check, and of a plan
abbrev pub Passes : Result (Unit {0}) Halt → Attempt Cause (Unit {0}) → Type 0
Passes result said = Gives (λ u. tt) result said

abbrev pub Plans : Result Plan Halt → Attempt Cause Outcome → Type 0
Plans result said = Gives outcome_of result said

-- the bytes came, where they are needed
abbrev pub HasBytes : Bool → Drawn → Type 0
HasBytes true (Bytes bytes) = Unit {0}
HasBytes true Unused = ⊥
HasBytes true Failed = ⊥
HasBytes false drawn = Unit {0}
