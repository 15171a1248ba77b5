-- The bytes of a connection determine its requests, but for how many there are.
use Rattle.std.proofs.Common.{◌≡◌, ℕ, ◌+◌, List, [], ◌∷◌, ◌++◌, length, take, drop, Option, Result, Ok, refl, sym, ap, subst, ◌∙◌, arith, length-append}
use Rattle.std.proofs.lemmas.List.{drop-append-le, map-append, take-append-le}
use Rattle.httparse.proofs.GrammarLemmas.{ReadsRequest-append, request_unique}
use Rattle.ks_http.specs.declared.cause.HttpCause.{HttpCause}
use Rattle.ks_http.specs.declared.parts.RequestParts.{RequestParts}
use Rattle.ks_http.specs.declared.request.Request.{Request}
use Rattle.ks_http.specs.Heads.{parts_of}
use Rattle.ks_http.specs.Next.{IsFirst, request_of}
use Rattle.ks_http.specs.Requests.{AreFirst, AreFollowed}
use Rattle.ks_http.proofs.RequestLemmas.{followed_then}
use Rattle.ks_machine.specs.Fronts.{Front}
use Rattle.ks_server.specs.declared.closed.Closed.{Closed}
use Rattle.ks_server.specs.declared.closed.Closed.TheVariants as closed
use Rattle.ks_server.specs.Exchanges.{Exchange, requests_of}
use Rattle.ks_server.specs.Sessions.{EndsSession, IsNextOf, IsNextWord, answered, cut, memory, refusal}

-- what follows a request does not change it

first_behind : (bytes more : List ℕ) (request : Request) (rest : List ℕ) → IsFirst bytes request rest → IsFirst (bytes ++ more) request (rest ++ more)
first_behind bytes more request rest first =
    let size = first.parts.length in
    let enough = first.enough in
    record {
      parts = first.parts;
      after = first.after ++ more;
      opens = record {
        head = first.opens.head;
        begins = record {
          reads = ReadsRequest-append bytes first.opens.head first.after more first.opens.begins.reads;
          short = first.opens.begins.short;
          few = first.opens.begins.few;
        };
        says = first.opens.says;
      };
      enough = let l = length-append first.after more in omega (arith, l, enough);
      request_is = first.request_is ∙ ap (λ body. request_of first.parts body) (sym (take-append-le size first.after more enough));
      rest_is = ap (λ l. l ++ more) first.rest_is ∙ sym (drop-append-le size first.after more enough);
    }

followed_behind : (count : ℕ) (bytes more : List ℕ) (requests : List Request) (rest : List ℕ) → AreFirst count bytes requests rest → AreFollowed (bytes ++ more) requests (rest ++ more)
followed_behind count bytes more [] rest first = ap (λ l. l ++ more) first
followed_behind count bytes more (r ∷ requests) rest first =
    (first.0 ++ more, first_behind bytes more r first.0 first.1, followed_behind (count + 1) first.0 more requests rest first.4)

-- bytes have one first request

one_parts : (a b : RequestParts) (said : Result RequestParts HttpCause) → said ≡ Ok a → said ≡ Ok b → a ≡ b
one_parts a b said first second = cc

first_once : (bytes : List ℕ) (r q : Request) (rest tail : List ℕ) → IsFirst bytes r rest → IsFirst bytes q tail → (r ≡ q) × (rest ≡ tail)
first_once bytes r q rest tail a b =
    let same = request_unique bytes a.opens.head b.opens.head a.after b.after a.opens.begins.reads b.opens.begins.reads in
    let same_parts : a.parts ≡ b.parts = one_parts a.parts b.parts (parts_of a.opens.head) a.opens.says (ap (λ head. parts_of head) same.0 ∙ b.opens.says) in (
      a.request_is ∙ ((λ i. request_of (same_parts i) (take (same_parts i).length (same.1 i))) ∙ sym b.request_is),
      a.rest_is ∙ ((λ i. drop (same_parts i).length (same.1 i)) ∙ sym b.rest_is),
    )

pub followed_once : (bytes : List ℕ) (rs qs : List Request) (rest tail : List ℕ) → length rs ≡ length qs → AreFollowed bytes rs rest → AreFollowed bytes qs tail → rs ≡ qs
followed_once bytes [] [] rest tail size a b = refl
followed_once bytes [] (q ∷ qs) rest tail size a b = absurd (omega (arith, size))
followed_once bytes (r ∷ rs) [] rest tail size a b = absurd (omega (arith, size))
followed_once bytes (r ∷ rs) (q ∷ qs) rest tail size a b =
    let one = first_once bytes r q a.0 b.0 a.1 b.1 in
    let others = followed_once a.0 rs qs rest tail (omega (arith, size)) a.2 (subst (λ l. AreFollowed l qs tail) (sym one.1) b.2) in
    λ i. one.0 i ∷ others i

-- however a connection ended, its requests come one after the other from its bytes

pub record Follow (input : List ℕ) (xs : List Exchange) : Type 0 where
  pub rest : List ℕ
  pub are : AreFollowed input (requests_of xs) rest

next_follow : (bytes : List ℕ) (over : List Exchange) → IsNextOf bytes over → Follow bytes over
next_follow bytes [] next = record { rest = bytes; are = refl }
next_follow bytes (x ∷ []) next = record { rest = next.0; are = (next.0, next.1, refl) }
next_follow bytes (x ∷ y ∷ over) next = absurd next

word_follow : (journal : Front) (count : ℕ) (bytes : List ℕ) (over : List Exchange) (word : List ℕ) → IsNextWord journal count bytes over word → Follow bytes over
word_follow journal count bytes over word (answered x rest first told) = record { rest = rest; are = (rest, first, refl) }
word_follow journal count bytes over word (refusal why is) = record { rest = bytes; are = refl }
word_follow journal count bytes over word (cut is) = record { rest = bytes; are = refl }
word_follow journal count bytes over word (memory over' next) = next_follow bytes over' next

both_follow : (input behind : List ℕ) (xs first over : List Exchange) → xs ≡ first ++ over → AreFirst 0 input (requests_of first) behind → Follow behind over → Follow input xs
both_follow input behind xs first over both are next = record {
  rest = next.rest;
  are = subst (λ rs. AreFollowed input rs next.rest) (sym (ap (λ l. requests_of l) both ∙ map-append (λ (x : Exchange). x.request) first over))
      (followed_then 0 input (requests_of first) behind (requests_of over) next.rest are next.are);
}

rested_follow : (input read rest : List ℕ) (xs : List Exchange) (behind : List ℕ) → input ≡ read ++ rest → AreFirst 0 read (requests_of xs) behind → Follow input xs
rested_follow input read rest xs behind is are =
    record { rest = behind ++ rest; are = subst (λ l. AreFollowed l (requests_of xs) (behind ++ rest)) (sym is) (followed_behind 0 read rest (requests_of xs) behind are) }

pub session_follow : {F : Type 0} (why : Closed F) (journal : Front) (input before : List ℕ) (left written : Option (List ℕ)) (xs : List Exchange)
    → EndsSession journal input before left written xs why → Follow input xs
session_follow closed.End journal input before left written xs told = record { rest = told.behind; are = told.followed }
session_follow closed.Asked journal input before left written xs told = record { rest = told.behind; are = told.followed }
session_follow closed.Last journal input before left written xs told = record { rest = told.behind; are = told.followed }
session_follow (closed.BadHttp why) journal input before left written xs told = record { rest = told.behind; are = told.followed }
session_follow closed.Rests journal input before left written xs told = rested_follow input told.read told.rest xs [] told.input_is told.are
session_follow closed.ReadFault journal input before left written xs told = rested_follow input told.read told.rest xs told.behind told.input_is told.are
session_follow closed.WriteFault journal input before left written xs told =
    both_follow input told.behind xs told.first told.over told.are_both told.are (word_follow journal (length told.first) told.behind told.over told.word told.is_next)
session_follow closed.Memory journal input before left written xs told =
    both_follow input told.behind xs told.first told.over told.are_both told.are (next_follow told.behind told.over told.is_next)
session_follow (closed.KeeperFault why) journal input before left written xs told =
    both_follow input told.behind xs told.first (told.over ∷ []) told.are_both told.are (record { rest = told.rest; are = (told.rest, told.is_next, refl) })
