use Rattle.std.proofs.Common.{◌∙◌, sym}
use Rattle.ks_rule.specs.Checks.{is_colon}
use Rattle.ks_rule.proofs.PlaceLemmas.{found_none, found_some}
use Rattle.ks_rule.proofs.CheckLemmas.{kind_is, text_is}
use Rattle.ks_rule.proofs.check.cut_kind.Goals as goal

pub returns-in_default-clause-none : goal.returns-in_default-clause-none
returns-in_default-clause-none c = found_none is_colon c.args.check.now (sym c.colon_in.ensures ∙ c.in_default.is)

pub returns-clause-some : goal.returns-clause-some
returns-clause-some c = found_some is_colon c.args.check.now c.in-Some.colon (sym c.in-Some.ensures)

pub returns-clause-kind : goal.returns-clause-kind
returns-clause-kind c = kind_is c.args.check.now c.split_at.result.0.now c.in-Some.colon (sym c.in-Some.ensures) c.split_at.ensures.front c.requires

pub returns-clause-text : goal.returns-clause-text
returns-clause-text c =
    text_is c.args.check.now c.split_at.result.1.now c.split_at-2.result.1.now c.in-Some.colon (sym c.in-Some.ensures) c.split_at.ensures.back c.split_at-2.ensures.back c.requires
