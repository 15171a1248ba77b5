use Rattle.std.proofs.Common.{sym, subst, ℕ, List}
use Rattle.ks_machine.specs.Validity.{opens}
use Rattle.ks_ring.specs.declared.held_key.HeldKey.{HeldKey}
use Rattle.ks_auth.specs.Facts.{told}
use Rattle.ks_auth.specs.Lines.{IsOpened}
use Rattle.ks_auth.proofs.RangeLemmas.{lines_in_range}
use Rattle.ks_auth.proofs.LineLemmas.{held_of}
use Rattle.ks_auth.proofs.opening.held.Goals as goal

pub returns-in-Ok-clause-lines : goal.returns-in-Ok-clause-lines
returns-in-Ok-clause-lines c =
    let P : List ℕ → Type 0 = λ plain. IsOpened (opens (told c.args.facts.now) c.args.tables.now.ring.now.held c.args.text.now) c.in_ok-issued.issued plain in
    let Q : List HeldKey → Type 0 = λ keys. IsOpened (opens (told c.args.facts.now) keys c.args.text.now) c.in_ok-issued.issued c.in_ok-issued.plain.now in (
      c.as_slice.result.now,
      held_of (told c.args.facts.now) c.args.tables.now.ring.now.held c.args.tables.now.settings.now.life c.args.moment c.args.late c.args.text.now c.in_ok-issued.issued
          c.as_slice.result.now _ (subst P (sym c.as_slice.ensures) (subst Q c.held.ensures.held c.in_ok-issued.ensures.opened)) c.in-Ok.ensures.held,
    )

pub returns-in-Ok-clause-range : goal.returns-in-Ok-clause-range
returns-in-Ok-clause-range c =
    lines_in_range c.readings.ensures.some c.args.tables.now.settings.now.life c.args.moment c.args.late c.in_ok-issued.issued c.as_slice.result.now _
    c.in-Ok.ensures.held
