use Rattle.std.proofs.Common.{Some, sym, ap, ◌∙◌}
use Rattle.std.proofs.lemmas.Result.{err_from_is_err_and}
use Rattle.ks_keyfiles.proofs.PromotionLemmas.{is_promoted, may_be_promoted, next_is_free, none_stands, staged_stands}
use Rattle.ks_keyfiles.proofs.rotating.promote.Goals as goal

pub returns-then-index-ne0-clause-told : goal.returns-then-index-ne0-clause-told
returns-then-index-ne0-clause-told g c = λ files told.
    told ∙ ap Some (sym (none_stands files c.args.indices.now.items _ c.requires.rising (c.requires.listed files told) c.index.ensures c.if-index-ne0.true))

pub rename-requires-clause-standing : goal.rename-requires-clause-standing
rename-requires-clause-standing g c = λ files told.
    staged_stands files c.args.indices.now.items _ (c.requires.listed files told) c.requires.some c.index.ensures c.if-index-ne0.false

pub rename-requires-clause-free : goal.rename-requires-clause-free
rename-requires-clause-free g c = λ files told.
    next_is_free files c.args.indices.now.items c.args.next (c.requires.listed files told) c.requires.next.0 c.requires.next.1

pub returns-in_err-rename-clause-told : goal.returns-in_err-rename-clause-told
returns-in_err-rename-clause-told g c = λ files told.
    let listed = c.requires.listed files told in
    let stands = staged_stands files c.args.indices.now.items _ listed c.requires.some c.index.ensures c.if-index-ne0.false in
    let fault = err_from_is_err_and c.from_residual.result c.from_residual.ensures.1 in
    rw fault.1 (may_be_promoted files c.args.indices.now.items c.args.next stands.0 _ listed c.requires.next.0 stands.1
    (c.in_err-rename.ensures.told files stands.0 told stands.1))

pub returns-clause-told : goal.returns-clause-told
returns-clause-told g c = λ files told.
    let listed = c.requires.listed files told in
    let stands = staged_stands files c.args.indices.now.items _ listed c.requires.some c.index.ensures c.if-index-ne0.false in
    is_promoted files c.args.indices.now.items c.args.next stands.0 _ listed c.requires.next.0 stands.1
    (c.in_ok-rename.ensures.told files stands.0 told stands.1)
