-- The requests at the front of a stream: one more, those that follow, and what was read of the stream.
use Rattle.std.proofs.Common.{◌≡◌, ℕ, ◌+◌, ◌-◌, ◌<◌, ◌≤◌, false, List, [], ◌∷◌, ◌++◌, length, take, drop, Option, Some, Result, Ok, inl, inr, refl, sym, ap, subst, ◌∙◌, arith, length-append, append_assoc}
use Rattle.std.proofs.lemmas.Bool.{cases_lt}
use Rattle.std.proofs.lemmas.Option.{same_Some}
use Rattle.std.proofs.lemmas.List.{append_cancel_right, length-take-le, take-append-drop}
use Rattle.ks_base.proofs.ListLemmas.{take_front, drop_front}
use Rattle.httparse.proofs.GrammarLemmas.{request_unique}
use Rattle.httparse.specs.Grammar.{print_request}
use Rattle.ks_http.specs.declared.cause.HttpCause.{HttpCause}
use Rattle.ks_http.specs.declared.parts.RequestParts.{RequestParts}
use Rattle.ks_http.specs.declared.request.Request.{Request}
use Rattle.ks_http.specs.Next.{IsFirst, IsUnfinished, ReadsNeeded, ReadsWhile, request_of, Requests, Close, goes_on, in_head, in_body}
use Rattle.ks_http.specs.Requests.{AreFirst, AreFollowed}
use Rattle.ks_http.specs.Heads.{parts_of}
use Rattle.ks_http.proofs.WaitLemmas.{undecided_at_first}

-- one more request behind those that came first
pub first_more : (count : ℕ) (bytes : List ℕ) (requests : List Request) (mid : List ℕ) (request : Request) (rest : List ℕ) →
    AreFirst count bytes requests mid → IsFirst mid request rest → request.close ≡ false → count + length requests + 1 < 1000000 →
    AreFirst count bytes (requests ++ request ∷ []) rest
first_more count bytes [] mid request rest first next going few =
    (rest, subst (λ b. IsFirst b request rest) (sym first) next, going, omega (arith, few), refl)
first_more count bytes (r ∷ requests) mid request rest first next going few =
    (first.0, first.1, first.2, first.3, first_more (count + 1) first.0 requests mid request rest first.4 next going (omega (arith, few)))

-- the requests that came first and those that follow them
pub first_then : (count : ℕ) (bytes : List ℕ) (requests : List Request) (mid : List ℕ) (others : List Request) (close : Close) →
    AreFirst count bytes requests mid → Requests (count + length requests) mid others close → Requests count bytes (requests ++ others) close
first_then count bytes [] mid others close first then =
    subst (λ b. Requests count b others close) (sym first) (subst (λ n. Requests n mid others close) (omega arith) then)
first_then count bytes (r ∷ requests) mid others close first then =
    goes_on count bytes first.0 r (requests ++ others) close first.1 first.2 first.3
    (first_then (count + 1) first.0 requests mid others close first.4 (subst (λ n. Requests n mid others close) (omega arith) then))

-- the bytes in front of those that were left, from which the same request comes
first_short : (bytes : List ℕ) (request : Request) (tail rest : List ℕ) → IsFirst bytes request (tail ++ rest) →
    (front : List ℕ) × (bytes ≡ front ++ rest) × IsFirst front request tail
first_short bytes request tail rest first =
    let size = first.parts.length in
    let body = take size first.after in
    let after_is : first.after ≡ (body ++ tail) ++ rest
    = sym (take-append-drop size first.after) ∙ ap (λ l. body ++ l) (sym first.rest_is) ∙ sym (append_assoc body tail rest) in
    let head = first.opens.head in
    let printed = print_request head in
    let front = printed ++ (body ++ tail) in
    let size_is : length body ≡ size = length-take-le size first.after first.enough in (
      front,
      first.opens.begins.reads.1 ∙ ap (λ l. printed ++ l) after_is ∙ sym (append_assoc printed (body ++ tail) rest),
      record {
        parts = first.parts;
        after = body ++ tail;
        opens = record {
          head = head;
          begins = record { reads = (first.opens.begins.reads.0, refl); short = first.opens.begins.short; few = first.opens.begins.few };
          says = first.opens.says;
        };
        enough = let l = length-append body tail in omega (arith, l, size_is);
        request_is = first.request_is ∙ ap (λ l. request_of first.parts l) (sym (take_front size body tail size_is));
        rest_is = sym (drop_front size body tail size_is);
      },
    )

pub first_read : (count : ℕ) (bytes : List ℕ) (requests : List Request) (tail rest : List ℕ) → AreFirst count bytes requests (tail ++ rest) →
    (read : List ℕ) × (bytes ≡ read ++ rest) × AreFirst count read requests tail
first_read count bytes [] tail rest first = (tail, first, refl)
first_read count bytes (r ∷ requests) tail rest first =
    let later = first_read (count + 1) first.0 requests tail rest first.4 in
    let here = first_short bytes r later.0 rest (subst (λ b. IsFirst bytes r b) later.1 first.1) in
    (here.0, here.1, (later.0, here.2, first.2, first.3, later.2))

-- the requests that came first, those behind them, and what follows all
pub followed_then : (count : ℕ) (bytes : List ℕ) (requests : List Request) (mid : List ℕ) (others : List Request) (rest : List ℕ) →
    AreFirst count bytes requests mid → AreFollowed mid others rest → AreFollowed bytes (requests ++ others) rest
followed_then count bytes [] mid others rest first then = subst (λ b. AreFollowed b others rest) (sym first) then
followed_then count bytes (r ∷ requests) mid others rest first then =
    (first.0, first.1, followed_then (count + 1) first.0 requests mid others rest first.4 then)

one_length : (a b : RequestParts) (said : Result RequestParts HttpCause) → said ≡ Ok a → said ≡ Ok b → a.length ≡ b.length
one_length a b said first second = cc

-- the beginning of a request is none
begins_none : (bytes : List ℕ) (request : Request) (rest : List ℕ) → IsUnfinished bytes → IsFirst bytes request rest → ⊥
begins_none bytes request rest (inl nothing) first =
    let none = subst (λ b. IsFirst b request rest) nothing first in
    undecided_at_first.headless none.opens.head none.after none.opens.begins
begins_none bytes request rest (inr (in_head headless unsettled some)) first = headless first.opens.head first.after first.opens.begins
begins_none bytes request rest (inr (in_body parts after opens few)) first =
    let same = request_unique bytes opens.head first.opens.head after first.after opens.begins.reads first.opens.begins.reads in
    let one = one_length parts first.parts (parts_of opens.head) opens.says (ap (λ head. parts_of head) same.0 ∙ first.opens.says) in
    let sizes = ap (λ l. length l) same.1 in
    let enough = first.enough in
    absurd (omega (arith, one, sizes, enough, few))

-- a request takes bytes from the front
parted : (bytes : List ℕ) (request : Request) (rest : List ℕ) → IsFirst bytes request rest → (taken : List ℕ) × (bytes ≡ taken ++ rest)
parted bytes request rest first =
    let printed = print_request first.opens.head in
    let body = take first.parts.length first.after in (
      printed ++ body,
      first.opens.begins.reads.1 ∙ ap (λ l. printed ++ l) (sym (take-append-drop first.parts.length first.after) ∙ ap (λ l. body ++ l) (sym first.rest_is)) ∙ sym (append_assoc printed body rest),
    )

-- of two cuts of the same bytes the one with the shorter end ends in it
ends_in : (front piece taken held : List ℕ) → front ++ piece ≡ taken ++ held → length piece ≤ length held →
    held ≡ take (length held - length piece) held ++ piece
ends_in front piece taken held same le =
    let kept = take (length held - length piece) held in
    let tail = drop (length held - length piece) held in
    let cut = take-append-drop (length held - length piece) held in
    let sizes = ap (λ l. length l) same in
    let a = length-append front piece in
    let b = length-append taken held in
    let c = length-take-le (length held - length piece) held (omega (arith, le)) in
    let d = length-append taken kept in
    let whole : front ++ piece ≡ (taken ++ kept) ++ tail = same ∙ (ap (λ l. taken ++ l) (sym cut) ∙ sym (append_assoc taken kept tail)) in
    let last : piece ≡ tail =
    sym (drop_front (length front) front piece refl) ∙ (ap (λ l. drop (length front) l) whole ∙ drop_front (length front) (taken ++ kept) tail (omega (arith, sizes, a, b, c, d, le))) in
    sym cut ∙ ap (λ l. kept ++ l) (sym last)

-- a request that needed a piece ends in it
within_piece : (bytes front piece held rest : List ℕ) (request : Request) → IsFirst bytes request (held ++ rest) → bytes ≡ front ++ (piece ++ rest) → IsUnfinished front →
    length piece < length held → ⊥
within_piece bytes front piece held rest request first bytes_are begun long =
    let short = first_short bytes request held rest first in
    let same : short.0 ≡ front ++ piece = append_cancel_right short.0 (front ++ piece) rest (sym short.1 ∙ (bytes_are ∙ sym (append_assoc front piece rest))) in
    let whole : IsFirst (front ++ piece) request held = subst (λ b. IsFirst b request held) same short.2 in
    let taken = parted (front ++ piece) request held whole in
    let tail = ends_in front piece taken.0 held taken.1 (omega (arith, long)) in
    let kept = take (length held - length piece) held in
    let here = first_short (front ++ piece) request kept piece (subst (λ l. IsFirst (front ++ piece) request l) tail whole) in
    begins_none front request kept begun (subst (λ b. IsFirst b request kept) (sym (append_cancel_right front here.0 piece here.1)) here.2)

-- behind a request a piece at most is in hand
pub piece_behind : (held before held' rest : List ℕ) (left : Option (List ℕ)) (request : Request) → left ≡ Some rest → IsFirst (held ++ before) request (held' ++ rest) →
    length held ≤ 4096 → ReadsNeeded IsUnfinished (held ++ before) before left → length held' ≤ 4096
piece_behind held before held' rest left request left_is first short (inl none) =
    let taken = parted (held ++ before) request (held' ++ rest) first in
    let same = ap (λ l. length l) (same_Some rest before (sym left_is ∙ none)) in
    let sizes = ap (λ l. length l) taken.1 in
    let a = length-append held before in
    let b = length-append taken.0 (held' ++ rest) in
    let c = length-append held' rest in
    omega (arith, same, sizes, a, b, c, short)
piece_behind held before held' rest left request left_is first short (inr read) = elim (cases_lt 4096 (length held')) [
  | inl long ↦
      let same = same_Some read.rest rest (sym read.left_is ∙ left_is) in
      let few = read.short in
      absurd (within_piece (held ++ before) read.front read.piece held' rest request first
      (read.bytes_are ∙ ap (λ l. read.front ++ (read.piece ++ l)) same) read.wanting (omega (arith, few, long)))
  | inr le ↦ le
]

-- of what is in hand, a piece at most, no more was read than had to be
pub in_hand : (held rest : List ℕ) (left : Option (List ℕ)) → length held ≤ 4096 → left ≡ Some rest → ReadsWhile IsUnfinished (held ++ rest) left
in_hand held rest left short left_is = record { front = []; piece = held; rest = rest; bytes_are = refl; wanting = inl refl; short = short; left_is = left_is }

pub behind_hand : (held before : List ℕ) (left : Option (List ℕ)) → length held ≤ 4096 → ReadsNeeded IsUnfinished (held ++ before) before left → ReadsWhile IsUnfinished (held ++ before) left
behind_hand held before left short (inl none) = in_hand held before left short none
behind_hand held before left short (inr read) = read
