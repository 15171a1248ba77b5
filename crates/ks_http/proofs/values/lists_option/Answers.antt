use Rattle.std.proofs.Common.{◌≡◌, true, false, sym, ◌∙◌, refl}
use Rattle.ks_http.specs.Fields.{is_option}
use Rattle.ks_http.proofs.Cuts.{lists_more, lists_last}
use Rattle.ks_http.proofs.values.lists_option.Goals as goal

pub returns-then-is_option : goal.returns-then-is_option
returns-then-is_option c =
    let more = lists_more c.args.word.now c.parts.rest.now c.in-Some.part.now c.in-Some.behind.now (sym c.in-Some.ensures) in
    let yes : is_option c.args.word.now c.in-Some.part.now ≡ true = sym c.is_option.ensures ∙ c.if-is_option.true in
    rw (← c.parts.invariant, more, yes) refl

pub parts-preserved : goal.parts-preserved
parts-preserved c =
    let more = lists_more c.args.word.now c.parts.rest.now c.in-Some.part.now c.in-Some.behind.now (sym c.in-Some.ensures) in
    let no : is_option c.args.word.now c.in-Some.part.now ≡ false = sym c.is_option.ensures ∙ c.if-is_option.false in
    rw (← c.parts.invariant, more, no) refl

pub returns : goal.returns
returns c = c.is_option-2.ensures ∙ (sym (lists_last c.args.word.now c.parts.rest.now (sym c.in_default.ensures)) ∙ c.parts.invariant)
