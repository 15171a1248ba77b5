use Rattle.std.proofs.Common.{◌≡◌, [], length, vec_len, arith, eq-eqb, sym, ◌∙◌}
use Rattle.std.proofs.lemmas.Bool.{eqb-true}
use Rattle.std.proofs.lemmas.Result.{err_from_is_err_and}
use Rattle.ks_keyfiles.proofs.WritingLemmas.{first_failed, first_is_free, nothing_listed, second_done, second_is_free, something_listed, told_before}
use Rattle.ks_keyfiles.proofs.writing.setup.Goals as goal

pub returns-then-not-is_empty-clause-told : goal.returns-then-not-is_empty-clause-told
returns-then-not-is_empty-clause-told g c = λ files told.
    let indices = c.in_ok-indices.indices in
    let some : length indices.items ≡ 0 → ⊥ = λ e. cc (c.if-not-is_empty.ensures ∙ eq-eqb (vec_len indices) 0 (omega (arith, e))) in
    (something_listed indices.items files some (c.in_ok-indices.ensures.told files told), c.list.ensures.looks.files ∙ told)

pub write-requires : goal.write-requires
write-requires g c = λ files told.
    let indices = c.in_ok-indices.indices in
    let none : vec_len indices ≡ 0 = eqb-true (vec_len indices) 0 (sym c.if-not-is_empty.ensures) in
    let empty : files ≡ [] = nothing_listed indices.items files (omega (arith, none)) (c.in_ok-indices.ensures.told files (sym c.list.ensures.looks.files ∙ told)) in
    first_is_free files empty

pub returns-in_err-write-clause-told : goal.returns-in_err-write-clause-told
returns-in_err-write-clause-told g c = λ files told.
    let indices = c.in_ok-indices.indices in
    let none : vec_len indices ≡ 0 = eqb-true (vec_len indices) 0 (sym c.if-not-is_empty.ensures) in
    let empty : files ≡ [] = nothing_listed indices.items files (omega (arith, none)) (c.in_ok-indices.ensures.told files told) in
    let fault = err_from_is_err_and c.from_residual-in_err-write.result c.from_residual-in_err-write.ensures.1 in
    rw (fault.1, fault.2) (first_failed c.args.staged c.args.primary files _ _ empty c.in_err-write.ensures.causes
    (c.in_err-write.ensures.told files (c.list.ensures.looks.files ∙ told)))

pub write-requires-2 : goal.write-requires-2
write-requires-2 g c = λ files told.
    let indices = c.in_ok-indices.indices in
    let none : vec_len indices ≡ 0 = eqb-true (vec_len indices) 0 (sym c.if-not-is_empty.ensures) in
    let were = told_before _ _ c.in_ok-write.ensures.untold files told in
    let empty : were.0 ≡ [] = nothing_listed indices.items were.0 (omega (arith, none)) (c.in_ok-indices.ensures.told were.0 (sym c.list.ensures.looks.files ∙ were.1)) in
    second_is_free c.args.primary were.0 files _ empty (c.in_ok-write.ensures.told were.0 were.1) told

pub returns-clause-told : goal.returns-clause-told
returns-clause-told g c = λ files told.
    let indices = c.in_ok-indices.indices in
    let none : vec_len indices ≡ 0 = eqb-true (vec_len indices) 0 (sym c.if-not-is_empty.ensures) in
    let empty : files ≡ [] = nothing_listed indices.items files (omega (arith, none)) (c.in_ok-indices.ensures.told files told) in
    let now = c.in_ok-write.ensures.told files (c.list.ensures.looks.files ∙ told) in
    second_done c.args.staged c.args.primary files _ _ empty c.write-2.ensures.causes (c.write-2.ensures.told _ now)
