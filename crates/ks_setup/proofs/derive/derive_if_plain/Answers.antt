use Rattle.std.proofs.Common.{◌∙◌, Some, ap, rules, sym}
use Rattle.ks_setup.specs.Openings.{derived_row}
use Rattle.ks_setup.proofs.DeriveLemmas.{first_salt}
use Rattle.ks_setup.proofs.derive.derive_if_plain.Goals as goal

pub returns-in-Some-clause-row : goal.returns-in-Some-clause-row
returns-in-Some-clause-row c =
    let salt = first_salt c.in-Some.salt.now c.args.salts.now.rest.now c.next.new.self.rest.now (search rules) c.in-Some.ensures.steps in
    rw (c.in-Some-Plain.is, c.in-Some-Plain.field-0-is)
    (ap Some (c.derived.ensures ∙ ap (λ first. derived_row c.args.rounds c.in-Some-Plain.password first) (sym salt)))
