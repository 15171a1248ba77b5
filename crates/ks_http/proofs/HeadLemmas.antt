-- What a look at the bytes so far says of the bytes however they go on.
use Rattle.std.proofs.Common.{ℕ, ◌≤◌, List, [], ◌++◌, length, drop, inl, inr, subst, arith}
use Rattle.std.proofs.lemmas.Bool.{cases_lt}
use Rattle.std.proofs.lemmas.List.{append-nil}
use Rattle.httparse.specs.Grammar.{HasNoRequest, print_request}
use Rattle.httparse.specs.Spans.{RequestOverflows}
use Rattle.httparse.specs.declared.spans.HeaderSpan.{HeaderSpan}
use Rattle.ks_http.specs.declared.look.Look.{Look}
use Rattle.ks_http.specs.declared.look.Look.TheVariants.{Whole, Refused, More}
use Rattle.ks_http.specs.Next.{HasNoHead}
use Rattle.ks_http.specs.steps.Buffers.{Finds, Judged}
use Rattle.ks_http.proofs.ScanLemmas.{unsettled_short, settled_stays}
use Rattle.ks_http.proofs.WaitLemmas.{front_of, none_settled}

pub none_over : (bytes more : List ℕ) (room : ℕ) → 64 ≤ room → RequestOverflows room bytes → HasNoHead (bytes ++ more)
none_over bytes more room le over = λ head after begins. let many = over more head after begins.reads in let few = begins.few in omega arith

pub none_full : (bytes more : List ℕ) → HasNoRequest bytes → 16384 ≤ length bytes → HasNoHead (bytes ++ more)
none_full bytes more none full = λ head after begins.
    let short : length (print_request head) ≤ length bytes = let s = begins.short in omega arith in
    none head (drop (length (print_request head)) bytes) (begins.reads.0, front_of bytes more (print_request head) after begins.reads.1 short)

pub none_yet : (bytes : List ℕ) → HasNoRequest bytes → HasNoHead bytes
none_yet bytes none = λ head after begins. none head after begins.reads

judged : (bytes : List ℕ) (headers : List HeaderSpan) (look : Look) → length bytes ≤ 16384 → ((more : List ℕ) → HasNoHead (bytes ++ more))
    → Judged bytes look → Finds bytes headers look
judged bytes headers (Whole spans) short none j = absurd j
judged bytes headers (Refused cause) short none j = λ more. (none more, settled_stays bytes more cause short j)
judged bytes headers More short none j =
    (record { headless = subst (λ b. HasNoHead b) (append-nil bytes) (none []); unsettled = j }, unsettled_short bytes short j)

pub finds_over : (bytes : List ℕ) (headers : List HeaderSpan) (look : Look) (room : ℕ) → length bytes ≤ 16384 → 64 ≤ room → RequestOverflows room bytes
    → Judged bytes look → Finds bytes headers look
finds_over bytes headers look room short le over j = judged bytes headers look short (λ more. none_over bytes more room le over) j

pub finds_partial : (bytes : List ℕ) (headers : List HeaderSpan) (look : Look) → length bytes ≤ 16384 → HasNoRequest bytes
    → Judged bytes look → Finds bytes headers look
finds_partial bytes headers (Whole spans) short none j = absurd j
finds_partial bytes headers (Refused cause) short none j = λ more. elim (cases_lt (length bytes) 16384) [
  | inl lt ↦ (none_settled bytes more cause lt none j, settled_stays bytes more cause short j)
  | inr le ↦ (none_full bytes more none le, settled_stays bytes more cause short j)
]
finds_partial bytes headers More short none j = (record { headless = none_yet bytes none; unsettled = j }, unsettled_short bytes short j)
