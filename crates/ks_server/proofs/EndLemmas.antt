-- How a connection goes on from request to request, and how it ends: the bytes, all at one journal.
use Rattle.std.proofs.Common.{◌≡◌, inl, inr, ℕ, ◌+◌, ◌<◌, true, false, List, [], ◌∷◌, ◌++◌, length, Option, Some, Err, refl, sym, ap, subst, ◌∙◌, arith, append_assoc, append-nil}
use Rattle.std.proofs.lemmas.List.{map-append, length-map}
use Rattle.ks_http.proofs.RequestLemmas.{behind_hand, first_more, first_then, first_read, followed_then, in_hand, piece_behind}
use Rattle.ks_http.specs.declared.cause.HttpCause.{HttpCause}
use Rattle.ks_http.specs.declared.ending.Ending.TheVariants as ending
use Rattle.ks_http.specs.declared.request.Request.{Request}
use Rattle.ks_http.specs.Next.{IsFirst, IsBegun, IsUnfinished, Ends, ReadsNeeded, ReadsWhile, Requests, Close, asked, last, ended, bad, none, refused as refused_bytes, cut as cut_bytes, closes, fills}
use Rattle.ks_http.specs.Requests.{AreFirst, AreFollowed}
use Rattle.ks_http.specs.Responses.{memory_response}
use Rattle.ks_machine.specs.Fronts.{Front}
use Rattle.ks_outside.specs.Streams.{Begins}
use Rattle.ks_render.specs.Answers.{wire_bad}
use Rattle.ks_server.proofs.AnswerLemmas.{of_request, one_of}
use Rattle.ks_server.proofs.TieLemmas.{all_both}
use Rattle.ks_server.specs.declared.closed.Closed.{Closed}
use Rattle.ks_server.specs.declared.closed.Closed.TheVariants as closed
use Rattle.ks_server.specs.declared.number.RequestNumber.{RequestNumber}
use Rattle.ks_server.specs.Exchanges.{Exchange, requests_of}
use Rattle.ks_server.specs.Sessions.{AreTold, EndsSession, IsNextOf, IsNextWord, IsTold, RanOut, ReadShort, Rested, WroteAll, WroteShort, answered, cut, last_word, memory, refusal, response, responses}
use Rattle.ks_server.specs.steps.Answers.{AreOf, GivesUp, IsWord, RefusesBytes, WritesAnswer, answered as answered_word, memory as memory_word}
use Rattle.ks_server.specs.steps.Progress.{StandsBehind}

-- responses

pub responses_none : (journal : Front) (count : ℕ) → responses journal count [] ≡ []
unfolding responses
responses_none journal count = refl

responses_both : (journal : Front) (count : ℕ) (xs ys : List Exchange) → responses journal count (xs ++ ys) ≡ responses journal count xs ++ responses journal (count + length xs) ys
unfolding responses
responses_both journal count [] ys = ap (λ n. responses journal n ys) (omega arith)
responses_both journal count (x ∷ xs) ys =
    ap (λ l. response journal count x ++ l) (responses_both journal (count + 1) xs ys ∙ ap (λ n. responses journal (count + 1) xs ++ responses journal n ys) (omega arith))
    ∙ sym (append_assoc (response journal count x) (responses journal (count + 1) xs) (responses journal (count + length (x ∷ xs)) ys))

responses_one : (journal : Front) (count : ℕ) (x : Exchange) → responses journal count (x ∷ []) ≡ response journal count x
unfolding responses
responses_one journal count x = append-nil (response journal count x)

-- the responses so far and one more
responses_more : (journal : Front) (count : ℕ) (xs : List Exchange) (x : Exchange) → length xs ≡ count →
    responses journal 0 (xs ++ x ∷ []) ≡ responses journal 0 xs ++ response journal count x
responses_more journal count xs x count_is =
    let same : 0 + length xs ≡ count = omega (arith, count_is) in
    responses_both journal 0 xs (x ∷ []) ∙ ap (λ l. responses journal 0 xs ++ l) (responses_one journal (0 + length xs) x ∙ ap (λ n. response journal n x) same)

-- the end of a connection

asked_goes_on : asked ≡ ended → ⊥
asked_goes_on e = cc e

last_goes_on : last ≡ ended → ⊥
last_goes_on e = cc e

bad_goes_on : (cause : HttpCause) → bad cause ≡ ended → ⊥
bad_goes_on cause e = cc e

-- these requests were answered, and these bytes are next
module _ {journal : Front} {input before held : List ℕ} {left written : Option (List ℕ)} {xs : List Exchange} (h : StandsBehind journal input before held left written xs) where
  abbrev bytes : List ℕ
  bytes = held ++ h.rest

  abbrev so_far : List ℕ
  so_far = before ++ responses journal 0 xs

  -- the output took no more
  short : (written' : Option (List ℕ)) (over : List Exchange) (word : List ℕ) → IsNextWord journal (length xs) bytes over word → (part : List ℕ) → Begins part word
      → written' ≡ Some (so_far ++ part) → WroteShort journal input before written' (xs ++ over)
  short written' over word next part begins wrote = record {
    first = xs;
    over = over;
    are_both = refl;
    behind = bytes;
    are = h.are;
    told = h.told;
    word = word;
    is_next = next;
    part = part;
    begins = begins;
    written_is = wrote ∙ ap Some (append_assoc before (responses journal 0 xs) part);
  }

  out : (written' : Option (List ℕ)) (over : List Exchange) → IsNextOf bytes over → written' ≡ Some (so_far ++ memory_response)
      → RanOut journal input before written' (xs ++ over)
  out written' over next wrote = record {
    first = xs;
    over = over;
    are_both = refl;
    behind = bytes;
    are = h.are;
    told = h.told;
    is_next = next;
    written_is = wrote ∙ ap Some (append_assoc before (responses journal 0 xs) memory_response);
  }

  -- there was no memory
  pub gives_up : {F : Type 0} (why : Closed F) (left' written' : Option (List ℕ)) (over : List Exchange) → IsNextOf bytes over → GivesUp so_far written' why
      → EndsSession journal input before left' written' (xs ++ over) why
  gives_up closed.Memory left' written' over next wrote = out written' over next wrote
  gives_up closed.WriteFault left' written' over next wrote = short written' over memory_response (memory over next) wrote.0 wrote.1 wrote.2
  gives_up closed.End left' written' over next wrote = absurd wrote
  gives_up closed.Rests left' written' over next wrote = absurd wrote
  gives_up closed.Asked left' written' over next wrote = absurd wrote
  gives_up closed.Last left' written' over next wrote = absurd wrote
  gives_up closed.ReadFault left' written' over next wrote = absurd wrote
  gives_up (closed.BadHttp why) left' written' over next wrote = absurd wrote
  gives_up (closed.KeeperFault why) left' written' over next wrote = absurd wrote

  word_of : (count : ℕ) (number : RequestNumber) (request : Request) (rest : List ℕ) → length xs ≡ count → IsFirst bytes request rest
      → (over : List Exchange) (word : List ℕ) → AreOf number request over → IsWord journal count over word → IsNextWord journal (length xs) bytes over word
  word_of count number request rest count_is is over word are (answered_word x told) =
      subst (λ n. IsNextWord journal (length xs) bytes (x ∷ []) (response journal n x)) count_is
      (answered x rest (subst (λ r. IsFirst bytes r rest) (sym are.2) is) told)
  word_of count number request rest count_is is over word are (memory_word xs') = memory xs' (of_request number request xs' bytes rest are is)

  -- the response to the next request was not written, or not whole
  pub stops : {F : Type 0} (why : Closed F) (count : ℕ) (number : RequestNumber) (request : Request) (rest : List ℕ) → length xs ≡ count → IsFirst bytes request rest
      → (left' written' : Option (List ℕ)) (over : List Exchange) → AreOf number request over → WritesAnswer journal count so_far written' over (Err why)
      → EndsSession journal input before left' written' (xs ++ over) why
  stops closed.WriteFault count number request rest count_is is left' written' over are wrote =
      short written' over wrote.0 (word_of count number request rest count_is is over wrote.0 are wrote.1) wrote.2 wrote.3 wrote.4
  stops closed.Memory count number request rest count_is is left' written' over are wrote =
      out written' over (of_request number request over bytes rest are is) wrote
  stops (closed.KeeperFault why) count number request rest count_is is left' written' over are wrote = record {
    first = xs;
    over = wrote.0;
    are_both = ap (λ l. xs ++ l) wrote.1;
    behind = bytes;
    are = h.are;
    told = h.told;
    rest = rest;
    is_next = subst (λ r. IsFirst bytes r rest) (sym (one_of number request over wrote.0 wrote.1 are)) is;
    is_call = wrote.2;
    written_is = wrote.3;
  }
  stops closed.End count number request rest count_is is left' written' over are wrote = absurd wrote
  stops closed.Rests count number request rest count_is is left' written' over are wrote = absurd wrote
  stops closed.Asked count number request rest count_is is left' written' over are wrote = absurd wrote
  stops closed.Last count number request rest count_is is left' written' over are wrote = absurd wrote
  stops closed.ReadFault count number request rest count_is is left' written' over are wrote = absurd wrote
  stops (closed.BadHttp why) count number request rest count_is is left' written' over are wrote = absurd wrote

  written_more : (count : ℕ) (x : Exchange) (written' : Option (List ℕ)) → length xs ≡ count → written' ≡ Some (so_far ++ response journal count x)
      → written' ≡ Some (before ++ responses journal 0 (xs ++ x ∷ []))
  written_more count x written' count_is wrote =
      wrote ∙ ap Some (append_assoc before (responses journal 0 xs) (response journal count x) ∙ ap (λ l. before ++ l) (sym (responses_more journal count xs x count_is)))

  requests_more : (x : Exchange) → requests_of (xs ++ x ∷ []) ≡ requests_of xs ++ x.request ∷ []
  requests_more x = map-append (λ (y : Exchange). y.request) xs (x ∷ [])

  counted : (count : ℕ) → length xs ≡ count → count ≡ 0 + length (requests_of xs)
  counted count count_is = let same = length-map xs (λ (y : Exchange). y.request) in omega (arith, same, count_is)

  -- the next request was answered, and another may follow
  pub moves_on : (count : ℕ) (x : Exchange) (held' rest : List ℕ) (left' written' : Option (List ℕ)) → length xs ≡ count → left' ≡ Some rest → IsFirst bytes x.request (held' ++ rest)
      → ReadsNeeded IsUnfinished bytes h.rest left' → x.request.close ≡ false → count + 1 < 1000000 → IsTold journal x → written' ≡ Some (so_far ++ response journal count x)
      → StandsBehind journal input before held' left' written' (xs ++ x ∷ [])
  moves_on count x held' rest left' written' count_is left_is is needed going few told wrote =
      let same = counted count count_is in record {
        rest = rest;
        left_is = left_is;
        short = piece_behind held h.rest held' rest left' x.request left_is is h.short needed;
        are = subst (λ l. AreFirst 0 input l (held' ++ rest)) (sym (requests_more x))
            (first_more 0 input (requests_of xs) bytes x.request (held' ++ rest) h.are is going (omega (arith, same, few)));
        told = all_both (λ y. IsTold journal y) xs (x ∷ []) h.told (told, tt);
        written_is = written_more count x written' count_is wrote;
      }

  whole : (count : ℕ) (over : List Exchange) (close : Close) (left' written' : Option (List ℕ)) (behind : List ℕ) → length xs ≡ count → Requests count bytes (requests_of over) close → AreTold journal over
      → written' ≡ Some (before ++ (responses journal 0 (xs ++ over) ++ last_word close)) → (close ≡ ended → left' ≡ Some [])
      → AreFollowed bytes (requests_of over) behind → ReadsWhile IsUnfinished behind left' → WroteAll journal input before left' written' (xs ++ over) close
  whole count over close left' written' behind count_is are told wrote end followed needed = record {
    are = subst (λ l. Requests 0 input l close) (sym (map-append (λ (y : Exchange). y.request) xs over))
        (first_then 0 input (requests_of xs) bytes (requests_of over) close h.are (subst (λ n. Requests n bytes (requests_of over) close) (counted count count_is) are));
    told = all_both (λ y. IsTold journal y) xs over h.told told;
    written_is = wrote;
    whole = end;
    behind = behind;
    followed = subst (λ l. AreFollowed input l behind) (sym (map-append (λ (y : Exchange). y.request) xs over))
        (followed_then 0 input (requests_of xs) bytes (requests_of over) behind h.are followed);
    needed = needed;
  }

  whole_more : (count : ℕ) (x : Exchange) (close : Close) (held' rest : List ℕ) (left' written' : Option (List ℕ)) → length xs ≡ count → left' ≡ Some rest
      → IsFirst bytes x.request (held' ++ rest) → ReadsNeeded IsUnfinished bytes h.rest left' → Requests count bytes (x.request ∷ []) close → last_word close ≡ []
      → IsTold journal x → written' ≡ Some (so_far ++ response journal count x) → (close ≡ ended → left' ≡ Some [])
      → WroteAll journal input before left' written' (xs ++ x ∷ []) close
  whole_more count x close held' rest left' written' count_is left_is is needed are word told wrote end =
      whole count (x ∷ []) close left' written' (held' ++ rest) count_is are (told, tt)
      (written_more count x written' count_is wrote ∙ ap (λ l. Some (before ++ l)) (sym (append-nil (responses journal 0 (xs ++ x ∷ []))) ∙ ap (λ l. responses journal 0 (xs ++ x ∷ []) ++ l) (sym word)))
      end (held' ++ rest, is, refl) (in_hand held' rest left' (piece_behind held h.rest held' rest left' x.request left_is is h.short needed) left_is)

  -- a request asked that the connection end
  pub asks_end : (count : ℕ) (x : Exchange) (held' rest : List ℕ) (left' written' : Option (List ℕ)) → length xs ≡ count → left' ≡ Some rest → IsFirst bytes x.request (held' ++ rest)
      → ReadsNeeded IsUnfinished bytes h.rest left' → x.request.close ≡ true
      → IsTold journal x → written' ≡ Some (so_far ++ response journal count x) → WroteAll journal input before left' written' (xs ++ x ∷ []) asked
  asks_end count x held' rest left' written' count_is left_is is needed close told wrote =
      whole_more count x asked held' rest left' written' count_is left_is is needed (closes count bytes (held' ++ rest) x.request is close) refl told wrote (λ e. absurd (asked_goes_on e))

  -- it was the last request of a connection
  pub fills_up : (count : ℕ) (x : Exchange) (held' rest : List ℕ) (left' written' : Option (List ℕ)) → length xs ≡ count → left' ≡ Some rest → IsFirst bytes x.request (held' ++ rest)
      → ReadsNeeded IsUnfinished bytes h.rest left' → x.request.close ≡ false
      → count + 1 ≡ 1000000 → IsTold journal x → written' ≡ Some (so_far ++ response journal count x) → WroteAll journal input before left' written' (xs ++ x ∷ []) last
  fills_up count x held' rest left' written' count_is left_is is needed going all told wrote =
      whole_more count x last held' rest left' written' count_is left_is is needed (fills count bytes (held' ++ rest) x.request is going all) refl told wrote (λ e. absurd (last_goes_on e))

  whole_none : (count : ℕ) (close : Close) (left' written' : Option (List ℕ)) → length xs ≡ count → Requests count bytes [] close
      → written' ≡ Some (so_far ++ last_word close) → (close ≡ ended → left' ≡ Some []) → ReadsNeeded IsUnfinished bytes h.rest left'
      → WroteAll journal input before left' written' (xs ++ []) close
  whole_none count close left' written' count_is are wrote end needed =
      whole count [] close left' written' bytes count_is are tt
      (wrote ∙ ap Some (append_assoc before (responses journal 0 xs) (last_word close)) ∙ ap (λ l. Some (before ++ (responses journal 0 l ++ last_word close))) (sym (append-nil xs)))
      end refl (behind_hand held h.rest left' h.short needed)

  -- the input ended
  pub ends : (count : ℕ) (left' : Option (List ℕ)) → length xs ≡ count → bytes ≡ [] → left' ≡ Some [] → ReadsNeeded IsUnfinished bytes h.rest left'
      → WroteAll journal input before left' written (xs ++ []) ended
  ends count left' count_is nothing end needed =
      whole_none count ended left' written count_is (subst (λ b. Requests count b [] ended) (sym nothing) (none count))
      (h.written_is ∙ ap Some (sym (append-nil so_far))) (λ e. end) needed

  -- the link rests
  pub rests : held ≡ [] → 0 < length xs → Rested journal input before left written (xs ++ [])
  rests nothing some =
      let front = first_read 0 input (requests_of xs) [] h.rest (subst (λ l. AreFirst 0 input (requests_of xs) (l ++ h.rest)) nothing h.are) in
      subst (λ l. Rested journal input before left written l) (sym (append-nil xs)) (record {
        read = front.0;
        rest = h.rest;
        input_is = front.1;
        left_is = h.left_is;
        are = front.2;
        some = some;
        told = h.told;
        written_is = h.written_is;
      })

  -- the bytes are no request
  bad_word : (count : ℕ) (cause : HttpCause) (left' : Option (List ℕ)) → Ends bytes left' (ending.Bad cause) → IsNextWord journal (length xs) bytes [] (wire_bad cause)
  bad_word count cause left' is = elim is [
    | inl refused ↦ refusal cause refused
    | inr begun ↦ subst (λ c. IsNextWord journal (length xs) bytes [] (wire_bad c)) (sym begun.1) (cut begun.0)
  ]

  bad_requests : (count : ℕ) (cause : HttpCause) (left' : Option (List ℕ)) → Ends bytes left' (ending.Bad cause) → Requests count bytes [] (bad cause)
  bad_requests count cause left' is = elim is [
    | inl refused ↦ refused_bytes count bytes cause refused
    | inr begun ↦ subst (λ c. Requests count bytes [] (bad c)) (sym begun.1) (cut_bytes count bytes begun.0)
  ]

  pub refuses : {F : Type 0} (why : Closed F) (count : ℕ) (cause : HttpCause) (left' written' : Option (List ℕ)) → length xs ≡ count → Ends bytes left' (ending.Bad cause)
      → ReadsNeeded IsUnfinished bytes h.rest left' → RefusesBytes cause so_far written' why → EndsSession journal input before left' written' (xs ++ []) why
  refuses (closed.BadHttp why) count cause left' written' count_is is needed wrote =
      subst (λ c. WroteAll journal input before left' written' (xs ++ []) (bad c)) (sym wrote.0)
      (whole_none count (bad cause) left' written' count_is (bad_requests count cause left' is) wrote.1 (λ e. absurd (bad_goes_on cause e)) needed)
  refuses closed.Memory count cause left' written' count_is is needed wrote = out written' [] tt wrote
  refuses closed.WriteFault count cause left' written' count_is is needed wrote = elim wrote.1 [
    | inl begins ↦ short written' [] (wire_bad cause) (bad_word count cause left' is) wrote.0 begins wrote.2
    | inr begins ↦ short written' [] memory_response (memory [] tt) wrote.0 begins wrote.2
  ]
  refuses closed.End count cause left' written' count_is is needed wrote = absurd wrote
  refuses closed.Rests count cause left' written' count_is is needed wrote = absurd wrote
  refuses closed.Asked count cause left' written' count_is is needed wrote = absurd wrote
  refuses closed.Last count cause left' written' count_is is needed wrote = absurd wrote
  refuses closed.ReadFault count cause left' written' count_is is needed wrote = absurd wrote
  refuses (closed.KeeperFault why) count cause left' written' count_is is needed wrote = absurd wrote

  -- the input could not be read further
  pub reads_short : (left' : Option (List ℕ)) → IsBegun bytes left' → ReadShort journal input before left' written (xs ++ [])
  reads_short left' begun =
      let front = first_read 0 input (requests_of xs) begun.read begun.rest (subst (λ b. AreFirst 0 input (requests_of xs) b) begun.bytes_is h.are) in
      subst (λ l. ReadShort journal input before left' written l) (sym (append-nil xs)) (record {
        read = front.0;
        rest = begun.rest;
        input_is = front.1;
        left_is = begun.left_is;
        behind = begun.read;
        are = front.2;
        begun = begun.begun;
        told = h.told;
        written_is = h.written_is;
      })

-- nothing was answered yet
pub starts : (journal : Front) (text before : List ℕ) (left written : Option (List ℕ)) → left ≡ Some text → written ≡ Some before →
    StandsBehind journal text before [] left written []
starts journal text before left written left_is written_is = record {
  rest = text;
  left_is = left_is;
  are = refl;
  short = omega arith;
  told = tt;
  written_is = written_is ∙ ap Some (sym (append-nil before) ∙ ap (λ l. before ++ l) (sym (responses_none journal 0)));
}
