-- What base64 decodes are bytes.
use Rattle.std.proofs.Common.{◌≡◌, ℕ, zero, suc, ◌+◌, ◌*◌, ◌/◌, ◌<◌, Bool, List, [], ◌∷◌, length, drop, slice_index, refl, arith, inl, inr, sym, ◌∙◌, ◌⊎◌}
use Rattle.std.specs.declared.option.Option.{Option}
use Rattle.std.specs.declared.option.Option.TheVariants.{None, Some}
use Rattle.std.specs.declared.result.Result.{Result}
use Rattle.std.specs.declared.result.Result.TheVariants.{Ok, Err}
use Rattle.ks_aes_cbc.specs.Aes.{AreBytes}
use Rattle.ks_aes_cbc.proofs.BlockLemmas.{AreBytes-append}
use Rattle.ks_aes_cbc.proofs.Chains.{AreBytes-take, AreBytes-drop}
use Rattle.base64.specs.declared.decode.DecodeError.{DecodeError}
use Rattle.base64.specs.declared.engine.DecodePaddingMode.{DecodePaddingMode}
use Rattle.base64.specs.Decode.{IsDecodeTable, decode_error, decode_group, decoded_bytes, group_bytes, group_error, groups_before_last, groups_bytes, groups_error, lone_error, no_leftover, or_else, push_leftover, scan, scan_last, scan_steps, suffix_bytes, suffix_error, symbol_error}
use Rattle.base64.proofs.Decoding.{IsLeftover, IsLeftover_next, scan-cons_err, scan-cons_ok}

neither : (x y : Option DecodeError) → or_else x y ≡ None → (x ≡ None) × (y ≡ None)
neither None y h = (refl, h)
neither (Some e) y h = cc

symbol_below : (dec s : List ℕ) (i : ℕ) → IsDecodeTable dec → AreBytes s → symbol_error dec s i ≡ None → slice_index dec (slice_index s i) < 64
symbol_below dec s i table bytes none = elim (table (slice_index s i) (bytes i)) [
  | inl bad ↦ cc (rw bad at none)
  | inr small ↦ small
]

AreBytes-decode_group : (a b c d : ℕ) → a < 64 → b < 64 → c < 64 → d < 64 → AreBytes (decode_group a b c d)
AreBytes-decode_group a b c d la lb lc ld zero = omega arith
AreBytes-decode_group a b c d la lb lc ld (suc zero) = omega arith
AreBytes-decode_group a b c d la lb lc ld (suc (suc zero)) = omega arith
AreBytes-decode_group a b c d la lb lc ld (suc (suc (suc i))) = omega arith

AreBytes-groups_bytes : (dec s : List ℕ) (q : ℕ) → IsDecodeTable dec → AreBytes s → groups_error dec s q ≡ None → AreBytes (groups_bytes dec s q)
unfolding groups_error groups_bytes
AreBytes-groups_bytes dec s zero table bytes none = λ i. omega arith
AreBytes-groups_bytes dec s (suc q) table bytes none =
    let at : ℕ = 4 * q in
    let parts = neither (groups_error dec s q) (group_error dec s at) none in
    let a = neither (symbol_error dec s at) _ parts.1 in
    let b = neither (symbol_error dec s (at + 1)) _ a.1 in
    let c = neither (symbol_error dec s (at + 2)) (symbol_error dec s (at + 3)) b.1 in
    AreBytes-append (groups_bytes dec s q) (group_bytes dec s at)
    (AreBytes-groups_bytes dec s q table bytes parts.0)
    (AreBytes-decode_group _ _ _ _ (symbol_below dec s at table bytes a.0) (symbol_below dec s (at + 1) table bytes b.0)
    (symbol_below dec s (at + 2) table bytes c.0) (symbol_below dec s (at + 3) table bytes c.1))

result_cases : {L E : Type 0} (r : Result L E) → ((x : L) × (r ≡ Ok x)) ⊎ ((e : E) × (r ≡ Err e))
result_cases (Ok x) = inl (x, refl)
result_cases (Err e) = inr (e, refl)

scanned_below : (dec : List ℕ) (pad at : ℕ) (bs : List ℕ) (st fin : _) (i : ℕ) → IsDecodeTable dec → AreBytes bs → IsLeftover st i
    → scan dec pad at st i bs ≡ Ok fin → (k : ℕ) → slice_index fin.morsels k < 64
unfolding scan_steps
scanned_below dec pad at [] st fin i table bytes held scanned =
    let same : st ≡ fin = cc in
    rw (← same) held.3
scanned_below dec pad at (b ∷ bs) st fin i table bytes held scanned = elim (result_cases (push_leftover dec pad at st i b)) [
  | inl ok ↦
      scanned_below dec pad at bs ok.0 fin (i + 1) table (λ k. bytes (suc k))
      (IsLeftover_next dec pad at st i b ok.0 table held (bytes 0) ok.1) (sym (scan-cons_ok dec pad at st i b bs ok.0 ok.1) ∙ scanned)
  | inr err ↦ cc (sym (scan-cons_err dec pad at st i b bs err.0 err.1) ∙ scanned)
]

no_leftover_small : (k : ℕ) → slice_index no_leftover.morsels k < 64
no_leftover_small zero = omega arith
no_leftover_small (suc zero) = omega arith
no_leftover_small (suc (suc zero)) = omega arith
no_leftover_small (suc (suc (suc zero))) = omega arith
no_leftover_small (suc (suc (suc (suc k)))) = omega arith

AreBytes-suffix_bytes : (dec s : List ℕ) (pad at : ℕ) → IsDecodeTable dec → AreBytes s → AreBytes (suffix_bytes dec pad at s)
AreBytes-suffix_bytes dec s pad at table bytes = elim (result_cases (scan_last dec pad at s)) [
  | inl ok ↦
      let st = ok.0 in
      let small = scanned_below dec pad at (drop at s) no_leftover st 0 table (AreBytes-drop at s bytes)
      (omega arith, omega arith, omega arith, no_leftover_small) ok.1 in
      rw ok.1 (AreBytes-take (st.morsels_count * 6 / 8) _ (AreBytes-decode_group _ _ _ _ (small 0) (small 1) (small 2) (small 3)))
  | inr err ↦ rw err.1 (λ i. omega arith)
]

-- an input with no error decodes to bytes
pub AreBytes-decoded_bytes : (dec s : List ℕ) (pad : ℕ) (allow : Bool) (mode : DecodePaddingMode) → IsDecodeTable dec → AreBytes s
    → decode_error dec pad allow mode s ≡ None → AreBytes (decoded_bytes dec pad s)
AreBytes-decoded_bytes dec s pad allow mode table bytes none =
    let q : ℕ = groups_before_last (length s) in
    let p0 = neither (lone_error dec pad s) _ none in
    let p1 = neither (groups_error dec s q) (suffix_error dec pad allow mode (4 * q) s) p0.1 in
    AreBytes-append (groups_bytes dec s q) (suffix_bytes dec pad (4 * q) s)
    (AreBytes-groups_bytes dec s q table bytes p1.0) (AreBytes-suffix_bytes dec s pad (4 * q) table bytes)
