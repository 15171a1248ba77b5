-- One request: what was written for it, and what its exchange was.
use Rattle.std.proofs.Common.{◌≡◌, inl, inr, ℕ, Bool, List, [], ◌∷◌, ◌++◌, Option, Some, Result, Ok, Err, IfErr, refl, sym, ap, subst, ◌∙◌}
use Rattle.ks_http.specs.declared.request.Request.{Request}
use Rattle.ks_http.specs.Next.{IsFirst}
use Rattle.ks_http.specs.Responses.{memory_response}
use Rattle.ks_machine.specs.declared.reply.Reply.{Reply}
use Rattle.ks_machine.specs.Fronts.{Front}
use Rattle.ks_outside.specs.Desks.{DeskState}
use Rattle.ks_outside.specs.Files.{DirState}
use Rattle.ks_outside.specs.Streams.{Begins, OnlyWrites, StreamState}
use Rattle.ks_render.specs.Answers.{wire}
use Rattle.ks_server.specs.declared.closed.Closed.{Closed}
use Rattle.ks_server.specs.declared.closed.Closed.TheVariants as closed
use Rattle.ks_server.specs.declared.number.RequestNumber.{RequestNumber}
use Rattle.ks_server.specs.declared.replied.Replied.TheVariants as replied
use Rattle.ks_server.specs.Exchanges.{Exchange, reply_to}
use Rattle.ks_server.specs.Sessions.{IsNextOf, IsTold, ends_with, is_head, response}
use Rattle.ks_server.specs.steps.Answers.{Answers, AreOf, Exchanges, GivesUp, IsAnswered, IsUnwritten, Writes, WritesAnswer, answered, memory}
use Rattle.ks_turn.specs.Passes.{Passed}

-- requests of exchanges

pub of_request : (number : RequestNumber) (request : Request) (over : List Exchange) (bytes rest : List ℕ) → AreOf number request over → IsFirst bytes request rest → IsNextOf bytes over
of_request number request [] bytes rest are is = tt
of_request number request (x ∷ []) bytes rest are is = (rest, subst (λ r. IsFirst bytes r rest) (sym are.2) is)
of_request number request (x ∷ y ∷ xs) bytes rest are is = absurd are

pub one_of : (number : RequestNumber) (request : Request) (over : List Exchange) (x : Exchange) → over ≡ x ∷ [] → AreOf number request over → x.request ≡ request
one_of number request over x is are = (subst (λ l. AreOf number request l) is are).2

abbrev IsWriteFault : {F : Type 0} → Result (Unit {0}) (Closed F) → Type 0
IsWriteFault result = result ≡ Err closed.WriteFault

inner : {F : Type 0} (why : Closed F) → IsWriteFault (Err why) → why ≡ closed.WriteFault
inner why is = cc is

-- the response to a reply is that of its exchange
response_is : (journal : Front) (count : ℕ) (x : Exchange) (request : Request) (said : Reply) (url : List ℕ) (head close : Bool) → said ≡ reply_to journal x → url ≡ journal.opening.settings.url
    → x.request ≡ request → head ≡ is_head request.method → close ≡ ends_with count request → wire said url head close ≡ response journal count x
response_is journal count x request said url head close said_is url_is request_is head_is close_is =
    ap (λ r. wire r url head close) said_is
    ∙ ap (λ u. wire (reply_to journal x) u head close) url_is
    ∙ ap (λ b. wire (reply_to journal x) journal.opening.settings.url b close) (head_is ∙ ap (λ (r : Request). is_head r.method) (sym request_is))
    ∙ ap (λ b. wire (reply_to journal x) journal.opening.settings.url (is_head x.request.method) b) (close_is ∙ ap (λ r. ends_with count r) (sym request_is))

wrote : {F : Type 0} (result : Result (Unit {0}) (Closed F)) (journal : Front) (count : ℕ) (x : Exchange) (word before : List ℕ) (written : Option (List ℕ)) → word ≡ response journal count x → IsTold journal x
    → Writes word before written result → WritesAnswer journal count before written (x ∷ []) result
wrote (Ok done) journal count x word before written is told h = (x, refl, told, h ∙ ap (λ l. Some (before ++ l)) is)
wrote (Err closed.WriteFault) journal count x word before written is told h = elim h.1 [
  | inl begins ↦ (response journal count x, answered x told, h.0, subst (λ l. Begins h.0 l) is begins, h.2)
  | inr begins ↦ (memory_response, memory (x ∷ []), h.0, begins, h.2)
]
wrote (Err closed.Memory) journal count x word before written is told h = h
wrote (Err closed.End) journal count x word before written is told h = absurd h
wrote (Err closed.Asked) journal count x word before written is told h = absurd h
wrote (Err closed.Last) journal count x word before written is told h = absurd h
wrote (Err closed.Rests) journal count x word before written is told h = absurd h
wrote (Err closed.ReadFault) journal count x word before written is told h = absurd h
wrote (Err (closed.BadHttp why)) journal count x word before written is told h = absurd h
wrote (Err (closed.KeeperFault why)) journal count x word before written is told h = absurd h

wrote_none : {F : Type 0} (why : Closed F) (journal : Front) (count : ℕ) (xs : List Exchange) (before : List ℕ) (written : Option (List ℕ)) → GivesUp before written why
    → WritesAnswer journal count before written xs (Err why)
wrote_none closed.Memory journal count xs before written h = h
wrote_none closed.WriteFault journal count xs before written h = (memory_response, memory xs, h.0, h.1, h.2)
wrote_none closed.End journal count xs before written h = absurd h
wrote_none closed.Asked journal count xs before written h = absurd h
wrote_none closed.Last journal count xs before written h = absurd h
wrote_none closed.Rests journal count xs before written h = absurd h
wrote_none closed.ReadFault journal count xs before written h = absurd h
wrote_none (closed.BadHttp why) journal count xs before written h = absurd h
wrote_none (closed.KeeperFault why) journal count xs before written h = absurd h

answered_by : {F : Type 0} (result : Result (Unit {0}) (Closed F)) (journal : Front) (xs : List Exchange) (x : Exchange) → xs ≡ x ∷ [] → IsTold journal x → IfErr result IsUnwritten → IsAnswered journal xs result
answered_by (Ok done) journal xs x is told h = (x, is, told)
answered_by (Err closed.WriteFault) journal xs x is told h = tt
answered_by (Err closed.Memory) journal xs x is told h = tt
answered_by (Err closed.End) journal xs x is told h = absurd h
answered_by (Err closed.Asked) journal xs x is told h = absurd h
answered_by (Err closed.Last) journal xs x is told h = absurd h
answered_by (Err closed.Rests) journal xs x is told h = absurd h
answered_by (Err closed.ReadFault) journal xs x is told h = absurd h
answered_by (Err (closed.BadHttp why)) journal xs x is told h = absurd h
answered_by (Err (closed.KeeperFault why)) journal xs x is told h = absurd h

unanswered_by : {F : Type 0} (why : Closed F) (journal : Front) (xs : List Exchange) → IsUnwritten why → IsAnswered journal xs (Err why)
unanswered_by closed.WriteFault journal xs h = tt
unanswered_by closed.Memory journal xs h = tt
unanswered_by closed.End journal xs h = absurd h
unanswered_by closed.Asked journal xs h = absurd h
unanswered_by closed.Last journal xs h = absurd h
unanswered_by closed.Rests journal xs h = absurd h
unanswered_by closed.ReadFault journal xs h = absurd h
unanswered_by (closed.BadHttp why) journal xs h = absurd h
unanswered_by (closed.KeeperFault why) journal xs h = absurd h

module _ {F Link : Type 0} {p q : Passed} {desk desk_after : DeskState Link} {dir dir_after : DirState} {number : RequestNumber} {request : Request} {link link_after : StreamState} where
  -- a reply was told, or there was no memory for its response
  pub answers_reply : {reply : Reply} {result : Result (Unit {0}) (Closed F)} (h : Exchanges {F = F} p q desk desk_after dir dir_after number request (replied.Reply reply)) (url : List ℕ) (head close : Bool)
      → url ≡ p.seen.opening.settings.url → head ≡ is_head request.method → close ≡ ends_with number.request request
      → ((before : List ℕ) → link.written ≡ Some before → Writes (wire reply url head close) before link_after.written result)
      → OnlyWrites (result ≡ Err closed.WriteFault) link link_after → IfErr result IsUnwritten → Answers p q desk desk_after dir dir_after number request link link_after result
  answers_reply {reply} {result} h url head close url_is head_is close_is told writes others =
      let says = h.says in
      let x = says.0 in
      let opening = h.works.moves.later.opening in
      let word = response_is q.seen number.request x request reply url head close says.3 (url_is ∙ ap (λ o. o.settings.url) opening) (one_of number request h.exchanges x says.1 h.are) head_is close_is in
      record {
        exchanges = h.exchanges;
        works = h.works;
        are = h.are;
        is = answered_by result q.seen h.exchanges x says.1 says.2 others;
        told = λ before written_is.
            subst (λ xs. WritesAnswer q.seen number.request before link_after.written xs result) (sym says.1)
            (wrote result q.seen number.request x (wire reply url head close) before link_after.written word says.2 (told before written_is));
        writes = writes;
      }

  -- there was no memory
  pub answers_memory : {why : Closed F} (h : Exchanges {F = F} p q desk desk_after dir dir_after number request replied.Memory)
      → ((before : List ℕ) → link.written ≡ Some before → GivesUp before link_after.written why)
      → OnlyWrites (why ≡ closed.WriteFault) link link_after → IsUnwritten why
      → Answers p q desk desk_after dir dir_after number request link link_after (Err why)
  answers_memory {why} h told writes others = record {
    exchanges = h.exchanges;
    works = h.works;
    are = h.are;
    is = unanswered_by why q.seen h.exchanges others;
    told = λ before written_is. wrote_none why q.seen number.request h.exchanges before link_after.written (told before written_is);
    writes = record {
      writes = record { kept = writes.writes.kept; rose = λ fault. writes.writes.rose (inner why fault) };
      left = writes.left;
      reads = writes.reads;
      names = writes.names;
    };
  }
