-- The calls of a desk follow one another.
use Rattle.std.proofs.Common.{◌≡◌, List, [], ◌++◌, Option, sym, ap, ◌∙◌, append_assoc, append-nil}
use Rattle.ks_outside.specs.declared.desk_call.DeskCall.{DeskCall}
use Rattle.ks_outside.specs.Desks.{Makes}

pub makes_none : (calls : Option (List DeskCall)) → Makes [] calls calls
makes_none calls told is = (told, is, sym (append-nil told))

pub makes_both : (one other : List DeskCall) (a b c : Option (List DeskCall)) → Makes one a b → Makes other b c → Makes (one ++ other) a c
makes_both one other a b c first second told is =
    let late = second told is in
    let early = first late.0 late.1 in
    (early.0, early.1, late.2 ∙ ap (λ l. l ++ other) early.2 ∙ append_assoc early.0 one other)
