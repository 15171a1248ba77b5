-- Bytes taken one after the other, and what stays so however they go on.
use Rattle.std.proofs.Common.{◌≡◌, ℕ, suc, ◌+◌, ◌-◌, ◌<◌, ◌≤◌, ◌==◌, Bool, true, false, List, [], ◌∷◌, ◌++◌, length, take, Some, None, inl, inr, refl, sym, ap, ◌∙◌, arith, append_assoc, nat_lt}
use Rattle.std.specs.Prelude.{All, fold}
use Rattle.std.proofs.lemmas.List.Sums.{fold-append}
use Rattle.std.proofs.lemmas.List.{append-nil, take_all, take-append-le}
use Rattle.std.proofs.Math.Seq.{take-append-add}
use Rattle.std.proofs.lemmas.Bool.{cases_lt}
use Rattle.std.proofs.lemmas.Bool.Decides.{nat_tests}
use Rattle.ks_base.specs.declared.limits.TheConstants.{HEAD_BYTES}
use Rattle.ks_http.specs.declared.cause.HttpCause.{HttpCause}
use Rattle.ks_http.specs.declared.lines.HeadPlace.{HeadPlace}
use Rattle.ks_http.specs.declared.lines.HeadPlace.TheVariants.{Start, Fields, Refused}
use Rattle.ks_http.specs.Lines.{Reached, start, behind_byte, behind_line, reached, cut_at, may_go_on, full_cause, cause_behind, settled_cause}
use Rattle.ks_http.proofs.Cuts.{cut_some, cut_none}

abbrev pub at : HeadPlace → List ℕ → Reached
at place line = record { place = place; line = line }

pub behind_other : (place : HeadPlace) (line : List ℕ) (b : ℕ) → (b == 10) ≡ false → behind_byte (at place line) b ≡ at place (line ++ b ∷ [])
unfolding behind_byte
behind_other place line b other = rw other refl

pub behind_feed : (place : HeadPlace) (line : List ℕ) → behind_byte (at place line) 10 ≡ at (behind_line place line) []
unfolding behind_byte
behind_feed place line = refl

pub clear_line : (place : HeadPlace) (before line : List ℕ) → All (λ b. (b == 10) ≡ false) line → fold behind_byte (at place before) line ≡ at place (before ++ line)
clear_line place before [] clear = ap (at place) (sym (append-nil before))
clear_line place before (b ∷ line) clear =
    ap (λ r. fold behind_byte r line) (behind_other place before b (clear 0 0 (omega arith)))
    ∙ (clear_line place (before ++ b ∷ []) line (λ k d lt. clear (suc k) d (omega arith)) ∙ ap (at place) (append_assoc before (b ∷ []) line))

pub line_more : (place : HeadPlace) (rest line behind : List ℕ) → cut_at 10 rest ≡ Some (line, behind)
    → fold behind_byte (at place []) rest ≡ fold behind_byte (at (behind_line place line) []) behind
line_more place rest line behind e =
    let c = cut_some 10 rest line behind e in
    ap (λ t. fold behind_byte (at place []) t) c.whole
    ∙ (fold-append behind_byte (at place []) line (10 ∷ behind)
    ∙ (ap (λ r. fold behind_byte r (10 ∷ behind)) (clear_line place [] line c.clear)
    ∙ ap (λ r. fold behind_byte r behind) (behind_feed place line)))

pub line_last : (place : HeadPlace) (rest : List ℕ) → cut_at 10 rest ≡ None → fold behind_byte (at place []) rest ≡ at place rest
line_last place rest e = clear_line place [] rest (cut_none 10 rest e)

refused_line : (cause : HttpCause) (line : List ℕ) → behind_line (Refused cause) line ≡ Refused cause
unfolding behind_line
refused_line cause line = refl

refused_byte : (cause : HttpCause) (line : List ℕ) (b : ℕ) (is_feed : Bool) → (b == 10) ≡ is_feed → (behind_byte (at (Refused cause) line) b).place ≡ Refused cause
unfolding behind_byte
refused_byte cause line b true e = rw e (refused_line cause line)
refused_byte cause line b false e = rw e refl

pub stays_refused : (cause : HttpCause) (r : Reached) (bytes : List ℕ) → r.place ≡ Refused cause → (fold behind_byte r bytes).place ≡ Refused cause
stays_refused cause r [] e = e
stays_refused cause r (b ∷ bytes) e =
    stays_refused cause (behind_byte r b) bytes (ap (λ p. (behind_byte (at p r.line) b).place) e ∙ refused_byte cause r.line b (b == 10) refl)

pub full_short : (count : ℕ) (place : HeadPlace) (line : List ℕ) → count < HEAD_BYTES → full_cause count place line ≡ None
unfolding full_cause
full_short count place line lt = let t : nat_lt count HEAD_BYTES ≡ true = grind (arith, nat_tests) in rw t refl

pub short_refused : (count : ℕ) (place : HeadPlace) (line : List ℕ) (cause : HttpCause) → count < HEAD_BYTES → cause_behind count place line ≡ Some cause → place ≡ Refused cause
unfolding cause_behind
short_refused count Start line cause lt e = let n = full_short count Start line lt in cc
short_refused count (Fields k) line cause lt e = let n = full_short count (Fields k) line lt in cc
short_refused count (Refused c) line cause lt e = cc

full_some : (place : HeadPlace) (line : List ℕ) (b : Bool) → may_go_on place line ≡ b → (full_cause HEAD_BYTES place line ≡ None → ⊥)
unfolding full_cause
full_some place line true e n = let f = rw e at n in cc
full_some place line false e n = let f = rw e at n in cc

never_none : (place : HeadPlace) (line : List ℕ) → cause_behind HEAD_BYTES place line ≡ None → ⊥
unfolding cause_behind
never_none Start line n = full_some Start line (may_go_on Start line) refl n
never_none (Fields k) line n = full_some (Fields k) line (may_go_on (Fields k) line) refl n
never_none (Refused c) line n = cc

refused_behind : (count : ℕ) (line : List ℕ) (cause : HttpCause) → cause_behind count (Refused cause) line ≡ Some cause
unfolding cause_behind
refused_behind count line cause = refl

pub settled_is : (bytes : List ℕ) → length bytes ≤ HEAD_BYTES → settled_cause bytes ≡ cause_behind (length bytes) (reached bytes).place (reached bytes).line
unfolding settled_cause
settled_is bytes short = ap (λ w. cause_behind (length w) (reached w).place (reached w).line) (take_all HEAD_BYTES bytes short)

-- fewer bytes than a head may have were not refused, or no cause is settled
pub unsettled_short : (bytes : List ℕ) → length bytes ≤ HEAD_BYTES → settled_cause bytes ≡ None → length bytes < HEAD_BYTES
unsettled_short bytes short e = elim (cases_lt (length bytes) HEAD_BYTES) [
  | inl lt ↦ lt
  | inr le ↦
      let full : length bytes ≡ HEAD_BYTES = omega arith in
      absurd (never_none (reached bytes).place (reached bytes).line
      (ap (λ n. cause_behind n (reached bytes).place (reached bytes).line) (sym full) ∙ (sym (settled_is bytes short) ∙ e)))
]

sum_is : (m n : ℕ) → n ≤ m → m ≡ n + (m - n)
sum_is m n le = omega arith

pub settled_stays : (bytes more : List ℕ) (cause : HttpCause) → length bytes ≤ HEAD_BYTES → settled_cause bytes ≡ Some cause → settled_cause (bytes ++ more) ≡ Some cause
unfolding settled_cause
settled_stays bytes more cause short e = elim (cases_lt (length bytes) HEAD_BYTES) [
  | inl lt ↦
      let same = sym (settled_is bytes short) ∙ e in
      let refused = short_refused (length bytes) (reached bytes).place (reached bytes).line cause lt same in
      let front : take HEAD_BYTES (bytes ++ more) ≡ bytes ++ take (HEAD_BYTES - length bytes) more =
      ap (λ n. take n (bytes ++ more)) (sum_is HEAD_BYTES (length bytes) short) ∙ take-append-add bytes more (HEAD_BYTES - length bytes) in
      let kept : (reached (take HEAD_BYTES (bytes ++ more))).place ≡ Refused cause =
      ap (λ w. (reached w).place) front ∙ (ap (λ r. r.place) (fold-append behind_byte start bytes (take (HEAD_BYTES - length bytes) more))
      ∙ stays_refused cause (reached bytes) (take (HEAD_BYTES - length bytes) more) refused) in
      ap (λ p. cause_behind (length (take HEAD_BYTES (bytes ++ more))) p (reached (take HEAD_BYTES (bytes ++ more))).line) kept
      ∙ refused_behind (length (take HEAD_BYTES (bytes ++ more))) (reached (take HEAD_BYTES (bytes ++ more))).line cause
  | inr le ↦
      let same : take HEAD_BYTES (bytes ++ more) ≡ take HEAD_BYTES bytes = take-append-le HEAD_BYTES bytes more le in
      ap (λ w. cause_behind (length w) (reached w).place (reached w).line) same ∙ e
]
