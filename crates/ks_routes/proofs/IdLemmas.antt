-- Reading an id answers whether the text is one.
use Rattle.std.proofs.Common.{◌≡◌, ℕ, ◌<◌, false, List, [], length, Err, None, refl, sym, ◌∙◌}
use Rattle.std.specs.Prelude.{Result, IfOk, is_ok}
use Rattle.ks_base.specs.Ids.{IsId, IsFirstBadByte, is_id}
use Rattle.ks_base.specs.declared.id.IdFault.{IdFault}
use Rattle.ks_base.specs.declared.id.IdFault.TheVariants.{Empty, TooLong, Byte}
use Rattle.ks_base.proofs.IdLemmas.{is_id_read}
use Rattle.ks_routes.specs.Asked.{id_read}

-- what is refused is no id
pub not_read : (r : Result (List ℕ) IdFault) (text : List ℕ) → IfOk r (λ id. (id ≡ text) × IsId text)
    → (r ≡ Err Empty → text ≡ []) → (r ≡ Err TooLong → 64 < length text)
    → ((place : ℕ) → r ≡ Err (Byte place) → IsFirstBadByte text place) → is_ok r ≡ false → None ≡ id_read text
not_read r text ok empty long byte fails =
    let no : is_id text ≡ false = sym (is_id_read r text ok empty long byte) ∙ fails in
    rw no refl
