-- Bytes that are no whole head yet, and those that come behind them.
use Rattle.std.proofs.Common.{◌≡◌, ℕ, ◌+◌, ◌-◌, ◌<◌, ◌≤◌, ◌==◌, false, List, [], ◌∷◌, ◌++◌, length, take, drop, get_or, Some, None, inl, inr, refl, sym, ap, ◌∙◌, subst, arith, append_assoc}
use Rattle.std.specs.Prelude.{All, ◌⊎◌}
use Rattle.std.proofs.lemmas.Bool.{cases_lt}
use Rattle.std.proofs.lemmas.List.{length-append, get_or_at, get_or-append_right, take-append-drop, take-append-le}
use Rattle.std.proofs.Math.Seq.{take-append_seam}
use Rattle.std.proofs.lemmas.List.Sums.{fold-append}
use Rattle.httparse.specs.Grammar.{HasNoRequest, print_request}
use Rattle.ks_base.specs.declared.limits.TheConstants.{HEAD_BYTES}
use Rattle.ks_http.specs.declared.cause.HttpCause.{HttpCause}
use Rattle.ks_http.specs.declared.lines.HeadPlace.{HeadPlace}
use Rattle.ks_http.specs.declared.lines.HeadPlace.TheVariants.{Start, Fields, Refused}
use Rattle.ks_http.specs.Lines.{Reached, start, behind_byte, reached, cause_behind, settled_cause, full_cause}
use Rattle.ks_http.specs.Next.{HasNoHead, IsCut, in_head}
use Rattle.ks_http.specs.steps.Buffers.{IsUndecided}
use Rattle.ks_http.proofs.ScanLemmas.{clear_line, stays_refused, short_refused, full_short, settled_is}
use Rattle.ks_http.proofs.HeadPlaces.{but_last, ends_with_feed, place_before_last}

pub front_of : (bytes more head after : List ℕ) → bytes ++ more ≡ head ++ after → length head ≤ length bytes → bytes ≡ head ++ drop (length head) bytes
front_of bytes more head after same short =
    let front : take (length head) bytes ≡ head = sym (take-append-le (length head) bytes more short) ∙ (ap (λ l. take (length head) l) same ∙ take-append_seam head after) in
    sym (take-append-drop (length head) bytes) ∙ ap (λ l. l ++ drop (length head) bytes) front

-- where the place behind the bytes refuses them, no head comes
pub none_settled : (bytes more : List ℕ) (cause : HttpCause) → length bytes < HEAD_BYTES → HasNoRequest bytes → settled_cause bytes ≡ Some cause → HasNoHead (bytes ++ more)
none_settled bytes more cause short none settled = λ head after begins.
    elim (cases_lt (length bytes) (length (print_request head))) [
      | inl lt ↦
          let front = but_last head in
          let ends = ends_with_feed head in
          let same : bytes ++ more ≡ but_last head ++ 10 ∷ after = begins.reads.1 ∙ (ap (λ t. t ++ after) ends ∙ append_assoc front (10 ∷ []) after) in
          let one_more : length (print_request head) ≡ length (but_last head) + 1 = ap (λ l. length l) ends ∙ length-append front (10 ∷ []) in
          let begun = front_of front (10 ∷ after) bytes more (sym same) (omega arith) in
          let refused = short_refused (length bytes) (reached bytes).place (reached bytes).line cause short (sym (settled_is bytes (omega arith)) ∙ settled) in
          let stays : (reached (but_last head)).place ≡ Refused cause =
          ap (λ w. (reached w).place) begun ∙ (ap (λ r. r.place) (fold-append behind_byte start bytes (drop (length bytes) front))
          ∙ stays_refused cause (reached bytes) (drop (length bytes) front) refused) in
          absurd (different (length head.fields) cause (sym (place_before_last head begins.reads.0 begins.few) ∙ stays))
      | inr le ↦ absurd (none head (drop (length (print_request head)) bytes) (begins.reads.0, front_of bytes more (print_request head) after begins.reads.1 le))
    ]
  where
    different : (count : ℕ) (cause : HttpCause) → Fields count ≡ Refused cause → ⊥
    different count cause e = cc

no_feed_at : (front fresh before after : List ℕ) → front ++ fresh ≡ before ++ 10 ∷ after → length front ≤ length before → All (λ b. (b == 10) ≡ false) fresh → ⊥
no_feed_at front fresh before after same behind clear =
    let n : length front + length fresh ≡ length before + (1 + length after) = sym (length-append front fresh) ∙ (ap (λ l. length l) same ∙ (length-append before (10 ∷ after) ∙ ap (λ k. length before + k) (one_more after))) in
    let at : get_or fresh (length before - length front) 0 ≡ 10 =
    sym (get_or-append_right front fresh (length front) (length before) 0 refl behind)
    ∙ (ap (λ l. get_or l (length before) 0) same ∙ get_or_at before 10 after 0 (length before) refl) in
    not_ten (get_or fresh (length before - length front) 0) at (clear (length before - length front) 0 (omega arith))
  where
    one_more : (l : List ℕ) → length (10 ∷ l) ≡ 1 + length l
    one_more l = omega arith

    not_ten : (b : ℕ) → b ≡ 10 → (b == 10) ≡ false → ⊥
    not_ten b e other = let f = rw e at other in cc

-- without one more line feed no head is whole
no_head_more : (front fresh : List ℕ) → HasNoHead front → All (λ b. (b == 10) ≡ false) fresh → HasNoHead (front ++ fresh)
no_head_more front fresh none clear = λ head after begins.
    elim (cases_lt (length front) (length (print_request head))) [
      | inl lt ↦
          let ends = ends_with_feed head in
          let one_more : length (print_request head) ≡ length (but_last head) + 1 = ap (λ l. length l) ends ∙ length-append (but_last head) (10 ∷ []) in
          no_feed_at front fresh (but_last head) after (begins.reads.1 ∙ (ap (λ t. t ++ after) ends ∙ append_assoc (but_last head) (10 ∷ []) after)) (omega arith) clear
      | inr le ↦ none head (drop (length (print_request head)) front) (record {
        reads = (begins.reads.0, front_of front fresh (print_request head) after begins.reads.1 le);
        short = begins.short;
        few = begins.few;
      })
    ]

-- nor is one more line refused
still_none : (count more : ℕ) (place : HeadPlace) (line longer : List ℕ) → cause_behind count place line ≡ None → more < HEAD_BYTES → cause_behind more place longer ≡ None
unfolding cause_behind
still_none count more Start line longer none lt = full_short more Start longer lt
still_none count more (Fields k) line longer none lt = full_short more (Fields k) longer lt
still_none count more (Refused cause) line longer none lt = cc

unsettled_more : (front fresh : List ℕ) → settled_cause front ≡ None → All (λ b. (b == 10) ≡ false) fresh → length (front ++ fresh) < HEAD_BYTES → settled_cause (front ++ fresh) ≡ None
unsettled_more front fresh none clear short =
    let n = length-append front fresh in
    let r = reached front in
    let kept : reached (front ++ fresh) ≡ record { place = (reached front).place; line = (reached front).line ++ fresh } =
    fold-append behind_byte start front fresh ∙ clear_line (reached front).place (reached front).line fresh clear in
    let before = sym (settled_is front (omega arith)) ∙ none in
    settled_is (front ++ fresh) (omega arith)
    ∙ (ap (λ (x : Reached). cause_behind (length (front ++ fresh)) x.place x.line) kept
    ∙ still_none (length front) (length (front ++ fresh)) (reached front).place (reached front).line ((reached front).line ++ fresh) before short)

pub undecided_more : (held : List ℕ) (before : ℕ) → length held < 16384 → All (λ b. (b == 10) ≡ false) (drop before held) → IsUndecided (take before held) → IsUndecided held
undecided_more held before short clear u =
    let whole = take-append-drop before held in
    let n = ap (λ l. length l) whole in
    subst (λ b. IsUndecided b) whole (record {
      headless = no_head_more (take before held) (drop before held) u.headless clear;
      unsettled = unsettled_more (take before held) (drop before held) u.unsettled clear (omega arith);
    })

pub undecided_at_first : IsUndecided []
unfolding settled_cause cause_behind full_cause
undecided_at_first = record {
  headless = λ head after begins.
      let n = ap (λ l. length l) begins.reads.1 in
      let m = length-append (print_request head) after in
      let k : length (print_request head) ≡ length (but_last head) + 1 = ap (λ l. length l) (ends_with_feed head) ∙ length-append (but_last head) (10 ∷ []) in
      absurd (omega arith);
  unsettled = refl;
}

-- undecided bytes are none or the beginning of a request
pub begun : (bytes : List ℕ) → IsUndecided bytes → (bytes ≡ []) ⊎ IsCut bytes
begun [] u = inl refl
begun (b ∷ bytes) u = inr (in_head u.headless u.unsettled (λ e. not_empty b bytes e))
  where
    not_empty : (b : ℕ) (l : List ℕ) → b ∷ l ≡ [] → ⊥
    not_empty b l e = cc
