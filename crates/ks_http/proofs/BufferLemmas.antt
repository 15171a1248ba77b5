-- The bytes in hand and those that are still to come.
use Rattle.std.proofs.Common.{◌≡◌, ◌≢◌, ℕ, ◌+◌, ◌<◌, ◌≤◌, List, [], ◌++◌, length, get_or, take, drop, min, ◌==◌, Bool, false, Option, Some, Result, Ok, Err, inl, inr, refl, sym, ap, ◌∙◌, subst, arith, append_assoc}
use Rattle.std.specs.Prelude.{All}
use Rattle.std.specs.List.{list_any}
use Rattle.std.proofs.lemmas.List.Folds.{list_any_at}
use Rattle.std.proofs.lemmas.List.{append-nil, drop_min, length-take, take_all, take-append-le, take-append-drop, drop-append-le, length-append}
use Rattle.std.proofs.Math.Seq.{drop-append_seam}
use Rattle.std.proofs.lemmas.Bool.{false_from_ne_true}
use Rattle.httparse.specs.Grammar.{ReadsRequest, print_request}
use Rattle.httparse.specs.Spans.{IsHeaderWithin}
use Rattle.httparse.specs.declared.spans.HeaderSpan.{HeaderSpan}
use Rattle.httparse.specs.declared.spans.RequestSpans.{RequestSpans}
use Rattle.httparse.proofs.GrammarLemmas.{ReadsRequest-append}
use Rattle.ks_http.specs.declared.cause.HttpCause.{HttpCause}
use Rattle.ks_http.specs.declared.ending.Ending.{Ending}
use Rattle.ks_http.specs.declared.ending.Ending.TheVariants.{End, Bad, ReadFault, Memory}
use Rattle.ks_http.specs.declared.look.Look.{Look}
use Rattle.ks_http.specs.declared.look.Look.TheVariants.{Whole, Refused, More}
use Rattle.ks_http.specs.declared.parts.RequestParts.{RequestParts}
use Rattle.ks_http.specs.Heads.{parts_of}
use Rattle.ks_http.specs.steps.Says.{Refuses}
use Rattle.ks_http.specs.Next.{BeginsWith, IsRefused, headless, by_head, in_body, Ends, IsUnfinished, ReadsNeeded}
use Rattle.ks_http.specs.steps.Buffers.{Fills, Filled, Finds, Looks, Glances, IsHeadAt, IsUndecided, FindsHead, Stands, FillsTo, OpensAt, Taken, TakesBody, ReadsPiece, IsShorter}

window_seam : (held rest : List ℕ) → take 16384 held ++ (drop 16384 held ++ rest) ≡ held ++ rest
window_seam held rest = sym (append_assoc (take 16384 held) (drop 16384 held) rest) ∙ ap (λ l. l ++ rest) (take-append-drop 16384 held)

short_window : (held : List ℕ) → length (take 16384 held) < 16384 → length held < 16384
short_window held lt = let n = length-take 16384 held in omega arith

pub not_full : (held : List ℕ) → length (take 16384 held) ≢ 16384 → length held < 16384
not_full held ne = let n = length-take 16384 held in omega arith

all_fail : (p : ℕ → Bool) (xs : List ℕ) → list_any p xs ≡ false → All (λ b. p b ≡ false) xs
all_fail p xs none = λ k d lt. false_from_ne_true (p (get_or xs k d)) (λ yes. let some = list_any_at p xs k d lt yes in cc)

-- a look would see no line feed that was not there before
pub no_feed_in : (held window fresh : List ℕ) (before at : ℕ) (found : Bool) → window ≡ take 16384 held → length window ≢ 16384 → at ≡ min before (length window)
    → fresh ≡ drop at window → found ≡ list_any (λ b. b == 10) fresh → found ≡ false → All (λ b. (b == 10) ≡ false) (drop before held)
no_feed_in held window fresh before at found w short a f found_is none =
    let n = length-take 16384 held in
    let m = ap (λ l. length l) w in
    let all : window ≡ held = w ∙ take_all 16384 held (omega arith) in
    let same : fresh ≡ drop before held = f ∙ (ap (λ k. drop k window) a ∙ (drop_min before window ∙ ap (λ l. drop before l) all)) in
    subst (λ l. All (λ b. (b == 10) ≡ false) l) same (all_fail (λ b. b == 10) fresh (sym found_is ∙ none))

pub looks : (held : List ℕ) (headers : List HeaderSpan) (look : Look) → Finds (take 16384 held) headers look → Looks held headers look
looks held headers (Whole spans) f = f
looks held headers (Refused cause) f = λ rest.
    let at = f (drop 16384 held ++ rest) in
    subst (λ b. IsRefused b cause) (window_seam held rest) (headless at.0 at.1)
looks held headers More f =
    let short = short_window held f.1 in
    (subst (λ b. IsUndecided b) (take_all 16384 held (omega arith)) f.0, short)

pub glances : (held : List ℕ) (before : ℕ) (headers : List HeaderSpan) (look : Look) → Looks held headers look → Glances held before headers look
glances held before headers (Whole spans) f = f
glances held before headers (Refused cause) f = f
glances held before headers More f = (λ u. f.0, f.1)

-- a piece was read behind what wanted more
pub took : (wants : List ℕ → Type 0) (whole held before : List ℕ) (left after : Option (List ℕ)) → Stands whole held left
    → ((rest : List ℕ) → left ≡ Some rest → ReadsPiece rest after) → wants held → ReadsNeeded wants whole before after
took wants whole held before left after s piece_of wanting =
    let piece = piece_of s.rest s.left_is in
    inr (record {
      front = held;
      piece = piece.piece;
      rest = piece.rest;
      bytes_are = sym s.whole_is ∙ ap (λ l. held ++ l) piece.left_is;
      wanting = wanting;
      short = piece.short;
      left_is = piece.after_is;
    })

-- what a head and its body took
pub took_both : (whole held before : List ℕ) (left after : Option (List ℕ)) (o : RequestParts) (f : OpensAt whole held left (Ok o)) → ReadsNeeded IsUnfinished whole before left
    → ReadsNeeded (IsShorter o.length) (held ++ f.0) f.0 after → ReadsNeeded IsUnfinished whole before after
took_both whole held before left after o f head (inl none) = subst (λ l. ReadsNeeded IsUnfinished whole before l) (f.1 ∙ sym none) head
took_both whole held before left after o f head (inr body) =
    let begins = f.2.begins in
    let printed = print_request f.2.head in
    inr (record {
      front = printed ++ body.front;
      piece = body.piece;
      rest = body.rest;
      bytes_are = begins.reads.1 ∙ (ap (λ l. printed ++ l) body.bytes_are ∙ sym (append_assoc printed body.front (body.piece ++ body.rest)));
      wanting = inr (in_body o body.front (record {
        head = f.2.head;
        begins = record { reads = (begins.reads.0, refl); short = begins.short; few = begins.few };
        says = f.2.says;
      }) body.wanting);
      short = body.short;
      left_is = body.left_is;
    })

-- no byte came: what is in hand is all
pub all_in_hand : (whole held new : List ℕ) (left after : Option (List ℕ)) (count : ℕ) (s : Stands whole held left) → Filled held s.rest new after count
    → count ≡ 0 → (new ≡ whole) × (after ≡ Some [])
all_in_hand whole held new left after count s f none =
    let e = f.ended none in
    (sym (append-nil new) ∙ (ap (λ r. new ++ r) (sym e) ∙ (sym f.same ∙ s.whole_is)), f.left_is ∙ ap (λ r. Some r) e)

pub fill_stops : (whole held new : List ℕ) (left after : Option (List ℕ)) (e : Ending) (size : ℕ) (s : Stands whole held left) → length held < size
    → Fills held s.rest new after (Err e) → FillsTo whole size new after (Err e)
fill_stops whole held new left after End size s few f = absurd f
fill_stops whole held new left after (Bad cause) size s few f = absurd f
fill_stops whole held new left after ReadFault size s few f =
    let same = ap (λ l. length l) f.0 in
    (record { rest = s.rest; left_is = f.1; whole_is = ap (λ l. l ++ s.rest) f.0 ∙ s.whole_is }, omega arith)
fill_stops whole held new left after Memory size s few f = tt

pub finds_refused : (whole held : List ℕ) (left : Option (List ℕ)) (cause : HttpCause) → Stands whole held left
    → ((rest : List ℕ) → IsRefused (held ++ rest) cause) → Ends whole left (Bad cause)
finds_refused whole held left cause s f = inl (subst (λ b. IsRefused b cause) s.whole_is (f s.rest))

pub finds_last : (whole held : List ℕ) (left : Option (List ℕ)) (headers : List HeaderSpan) (r : Result RequestSpans Ending) → held ≡ whole → left ≡ Some []
    → FindsHead held held (Some []) headers r → FindsHead whole held left headers r
finds_last whole held left headers r w l f = subst (λ o. FindsHead whole held o headers r) (sym l) (subst (λ b. FindsHead b held (Some []) headers r) w f)

pub short_whole : (whole held new : List ℕ) (size count : ℕ) → new ≡ whole → length new ≡ length held + count → count ≡ 0 → length held < size → length whole < size
short_whole whole held new size count e l z lt = let n = ap (λ b. length b) e in omega arith

pub takes : (whole held new body : List ℕ) (size : ℕ) (left : Option (List ℕ)) → Stands whole held left → size ≤ length held → body ≡ take size held → new ≡ drop size held
    → Taken whole size new left body
takes whole held new body size left s enough b n = record {
  rest = s.rest;
  left_is = s.left_is;
  enough = let l = ap (λ x. length x) s.whole_is in let m = length-append held s.rest in omega arith;
  body_is = b ∙ (sym (take-append-le size held s.rest enough) ∙ ap (λ l. take size l) s.whole_is);
  rest_is = ap (λ l. l ++ s.rest) n ∙ (sym (drop-append-le size held s.rest enough) ∙ ap (λ l. drop size l) s.whole_is);
}

-- a head in the window, and what follows it
opens_after : (whole held rest : List ℕ) (headers : List HeaderSpan) (spans : RequestSpans) (h : IsHeadAt (take 16384 held) headers spans) → held ++ rest ≡ whole
    → spans.len ≤ length held → BeginsWith whole h.head (drop spans.len held ++ rest)
opens_after whole held rest headers spans h same fits =
    let more = drop 16384 held ++ rest in
    let reads = ReadsRequest-append (take 16384 held) h.head (drop spans.len (take 16384 held)) more h.begins.reads in
    let behind : drop spans.len (take 16384 held) ++ more ≡ drop spans.len held ++ rest =
    sym (drop-append_seam (print_request h.head) (drop spans.len (take 16384 held) ++ more))
    ∙ (ap (λ l. drop (length (print_request h.head)) l) (sym reads.1)
    ∙ (ap (λ n. drop n (take 16384 held ++ more)) (sym h.at.len)
    ∙ (ap (λ l. drop spans.len l) (window_seam held rest) ∙ drop-append-le spans.len held rest fits))) in
    record {
      reads = subst (λ b. ReadsRequest b h.head (drop spans.len held ++ rest)) (window_seam held rest ∙ same)
          (subst (λ a. ReadsRequest (take 16384 held ++ more) h.head a) behind reads);
      short = h.begins.short;
      few = h.begins.few;
    }

pub opens_at : (whole held new : List ℕ) (left : Option (List ℕ)) (headers : List HeaderSpan) (spans : RequestSpans) (o : RequestParts) (f : FindsHead whole held left headers (Ok spans))
    → spans.len ≤ length held → new ≡ drop spans.len held → parts_of f.3.head ≡ Ok o → OpensAt whole new left (Ok o)
opens_at whole held new left headers spans o f fits n says = (
  f.0,
  f.1,
  record {
    head = f.3.head;
    begins = subst (λ l. BeginsWith whole f.3.head (l ++ f.0)) (sym n) (opens_after whole held f.0 headers spans f.3 f.2 fits);
    says = says;
  },
)

pub refuses_head : (whole held : List ℕ) (left : Option (List ℕ)) (headers : List HeaderSpan) (spans : RequestSpans) (e : Ending) (f : FindsHead whole held left headers (Ok spans))
    → spans.len ≤ length held → Refuses (parts_of f.3.head) e → Ends whole left e
refuses_head whole held left headers spans (Bad cause) f fits says =
    inl (by_head (drop spans.len held ++ f.0) (record { head = f.3.head; begins = opens_after whole held f.0 headers spans f.3 f.2 fits; says = says }))
refuses_head whole held left headers spans Memory f fits says = tt
refuses_head whole held left headers spans End f fits says = absurd says
refuses_head whole held left headers spans ReadFault f fits says = absurd says

pub body_ends : (whole held new : List ℕ) (left after : Option (List ℕ)) (o : RequestParts) (e : Ending) (f : OpensAt whole held left (Ok o))
    → TakesBody (held ++ f.0) o.length new after (Err e) → Ends whole after e
body_ends whole held new left after o End f t = absurd t
body_ends whole held new left after o (Bad cause) f t = inr (in_body o (held ++ f.0) f.2 t.1, t.0, t.2)
body_ends whole held new left after o ReadFault f t =
    let head = f.2.head in
    let begins = f.2.begins in
    record {
      read = print_request head ++ new;
      rest = t.0.rest;
      left_is = t.0.left_is;
      bytes_is = begins.reads.1 ∙ (ap (λ l. print_request head ++ l) (sym t.0.whole_is) ∙ sym (append_assoc (print_request head) new t.0.rest));
      begun = inr (in_body o new (record {
        head = head;
        begins = record { reads = (begins.reads.0, refl); short = begins.short; few = begins.few };
        says = f.2.says;
      }) t.1);
    }
body_ends whole held new left after o Memory f t = tt

pub all_within : (m n : ℕ) (spans : List HeaderSpan) → m ≤ n → All (IsHeaderWithin m) spans → All (IsHeaderWithin n) spans
all_within m n spans le all = λ k d lt. let w = all k d lt in let a = w.0.1 in let b = w.1.1 in ((w.0.0, omega arith), (w.1.0, omega arith))

pub fits : (n : ℕ) (held : List ℕ) → n ≤ length (take 16384 held) → n ≤ length held
fits n held le = let l = length-take 16384 held in omega arith
