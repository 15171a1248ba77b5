use Rattle.std.proofs.Common.{◌∙◌, sym, ap, [], drop, refl}
use Rattle.std.proofs.lemmas.List.{nil_from_length}
use Rattle.ks_rule.specs.Tokens.{is_closing}
use Rattle.ks_rule.proofs.PlaceLemmas.{found_none}
use Rattle.ks_rule.proofs.FillingLemmas.{keyed_none, key_empty, key_open, key_other, key_found, empty_is, some_is}
use Rattle.ks_rule.proofs.pieces.cut_key.Goals as goal

pub returns-in_default : goal.returns-in_default
returns-in_default c = keyed_none c.args.text.now [] (found_none is_closing c.args.text.now (sym c.closing_in.ensures ∙ c.in_default.is))

pub returns-then-is_empty : goal.returns-then-is_empty
returns-then-is_empty c =
    key_empty c.args.text.now c.split_at.result.0.now (drop 1 (drop c.in-Some.end c.args.text.now)) c.in-Some.end
    (record { found = sym c.in-Some.ensures; name_is = c.split_at.ensures.front; behind_is = refl })
    (empty_is c.split_at.result.0.now (sym c.is_empty.ensures ∙ c.if-is_empty.true))

pub returns-in_default-split_first : goal.returns-in_default-split_first
returns-in_default-split_first c =
    key_open c.args.text.now c.split_at.result.0.now c.split_at-2.result.1.now c.in-Some.end
    (record { found = sym c.in-Some.ensures; name_is = c.split_at.ensures.front; behind_is = c.split_at-2.ensures.back ∙ ap (drop 1) c.split_at.ensures.back })
    (nil_from_length c.split_at-2.result.1.now c.in_default-split_first.ensures.cases)

pub returns-then-mark-eq115 : goal.returns-then-mark-eq115
returns-then-mark-eq115 c =
    key_found c.args.text.now c.split_at.result.0.now c.split_at-2.result.1.now c.in-Some-split_first.rest.now c.in-Some.end c.in-Some-split_first.mark.now
    (record { found = sym c.in-Some.ensures; name_is = c.split_at.ensures.front; behind_is = c.split_at-2.ensures.back ∙ ap (drop 1) c.split_at.ensures.back })
    (some_is c.split_at.result.0.now (sym c.is_empty.ensures ∙ c.if-is_empty.false)) c.in-Some-split_first.ensures.cases.0 c.if-mark-eq115.true

pub returns-else-mark-eq115 : goal.returns-else-mark-eq115
returns-else-mark-eq115 c =
    key_other c.args.text.now c.split_at.result.0.now c.split_at-2.result.1.now c.in-Some-split_first.rest.now c.in-Some.end c.in-Some-split_first.mark.now
    (record { found = sym c.in-Some.ensures; name_is = c.split_at.ensures.front; behind_is = c.split_at-2.ensures.back ∙ ap (drop 1) c.split_at.ensures.back })
    c.in-Some-split_first.ensures.cases.0 c.if-mark-eq115.false
