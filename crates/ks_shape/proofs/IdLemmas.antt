-- Reading an id takes exactly the texts that are one.
use Rattle.std.proofs.Common.{◌≡◌, ℕ, ◌<◌, false, List, [], length, Err, refl, ap, ◌∙◌, sym}
use Rattle.std.specs.Prelude.{Result, ◌↔◌, IfOk, is_ok}
use Rattle.ks_base.specs.Ids.{IsId, IsFirstBadByte, is_id}
use Rattle.ks_base.specs.declared.id.IdFault.{IdFault}
use Rattle.ks_base.specs.declared.id.IdFault.TheVariants.{Empty, TooLong, Byte}
use Rattle.ks_base.proofs.IdLemmas.{is_id_read}
use Rattle.ks_shape.specs.declared.misfit.Misfit.TheVariants.{Range}
use Rattle.ks_shape.specs.Types.{id_in}

pub read_no_id : (r : Result (List ℕ) IdFault) (fault : IdFault) (text : List ℕ) → r ≡ Err fault
    → ((r ≡ Err Empty) ↔ (text ≡ [])) → ((r ≡ Err TooLong) ↔ (64 < length text))
    → ((place : ℕ) → r ≡ Err (Byte place) → IsFirstBadByte text place) → Err Range ≡ id_in text
unfolding id_in
read_no_id r fault text was empty long byte =
    let none : IfOk r (λ id. (id ≡ text) × IsId text) = rw was tt in
    let no : is_id text ≡ false = sym (is_id_read r text none empty.0 long.0 byte) ∙ ap is_ok was in
    rw no refl
