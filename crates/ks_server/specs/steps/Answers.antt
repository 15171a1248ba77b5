-- What came of one request, and what was written for it.
use Rattle.std.specs.Prelude.{◌≡◌, ◌⊎◌, ℕ, Bool, true, false, List, [], ◌∷◌, ◌++◌, Option, Some, Result, Ok, Err}
use Rattle.ks_http.specs.declared.cause.HttpCause.{HttpCause}
use Rattle.ks_http.specs.declared.request.Request.{Request}
use Rattle.ks_http.specs.Responses.{memory_response}
use Rattle.ks_machine.specs.declared.cause.Cause.{Cause}
use Rattle.ks_machine.specs.declared.cause.Cause.TheVariants as cause
use Rattle.ks_machine.specs.declared.reply.Reply.{Reply}
use Rattle.ks_machine.specs.Fronts.{Front}
use Rattle.ks_machine.specs.Told.{IsTellable}
use Rattle.ks_outside.specs.declared.desk_call.DeskCall.TheVariants as desk_call
use Rattle.ks_outside.specs.Desks.{DeskState, Makes}
use Rattle.ks_outside.specs.Files.{DirState}
use Rattle.ks_outside.specs.Streams.{Begins, OnlyWrites, StreamState}
use Rattle.ks_render.specs.Answers.{wire_bad}
use Rattle.ks_routes.specs.declared.routed.Routed.{Routed}
use Rattle.ks_routes.specs.declared.routed.Routed.TheVariants as routed
use Rattle.ks_server.specs.declared.closed.Closed.{Closed}
use Rattle.ks_server.specs.declared.closed.Closed.TheVariants as closed
use Rattle.ks_server.specs.declared.number.RequestNumber.{RequestNumber}
use Rattle.ks_server.specs.declared.replied.Replied.{Replied}
use Rattle.ks_server.specs.declared.replied.Replied.TheVariants as replied
use Rattle.ks_server.specs.Exchanges.{Exchange, reply_to}
use Rattle.ks_server.specs.Sessions.{IsCall, IsTold, response}
use Rattle.ks_server.specs.Work.{Works}
use Rattle.ks_service.specs.Called.{is_memory}
use Rattle.ks_state.specs.declared.decides.Kept.{Kept}
use Rattle.ks_state.specs.declared.decides.Kept.TheVariants as keeping
use Rattle.ks_turn.specs.Passes.{Passed}

-- a desk was asked for room for a receipt
pub record IsReadied {Link : Type 0} (old new : DeskState Link) : Type 0 where
  pub kept : new ≡ record old { receipt_room = new.receipt_room; calls = new.calls }
  pub calls : Makes (desk_call.Ready ∷ []) old.calls new.calls

-- one exchange at most, for this request
abbrev pub AreOf : RequestNumber → Request → List Exchange → Type 0
AreOf number request [] = Unit {0}
AreOf number request (x ∷ []) = (x.receipt.connection ≡ number.connection) × (x.receipt.request ≡ number.request) × (x.request ≡ request)
AreOf number request (x ∷ y ∷ xs) = ⊥

-- what is to be told is the reply in the one exchange; of want of memory nothing is said
abbrev pub Says : {F : Type 0} → Front → List Exchange → Replied F → Type 0
Says journal xs (replied.Reply reply) =
    (x : Exchange) × (xs ≡ x ∷ []) × IsTold journal x × (reply ≡ reply_to journal x) × IsTellable reply
Says journal xs (replied.KeeperFault why) = (x : Exchange) × (xs ≡ x ∷ []) × IsCall x.asked
Says journal xs replied.Memory = Unit {0}

-- a request came to this
pub record Exchanges {F Link : Type 0} (old new : Passed) (desk desk_after : DeskState Link) (dir dir_after : DirState) (number : RequestNumber) (request : Request) (said : Replied F) : Type 0 where
  pub exchanges : List Exchange
  pub works : Works old new desk desk_after dir dir_after exchanges
  pub are : AreOf number request exchanges
  pub says : Says new.seen exchanges said

-- what came of writing this: where there was no memory for it, the response that says so
abbrev pub Writes : {F : Type 0} → List ℕ → List ℕ → Option (List ℕ) → Result (Unit {0}) (Closed F) → Type 0
Writes word before written (Ok done) = written ≡ Some (before ++ word)
Writes word before written (Err closed.WriteFault) =
    (part : List ℕ) × (Begins part word ⊎ Begins part memory_response) × (written ≡ Some (before ++ part))
Writes word before written (Err closed.Memory) = written ≡ Some (before ++ memory_response)
Writes word before written (Err other) = ⊥

-- there was no memory: the response that says so was written, or a front of it
abbrev pub GivesUp : {F : Type 0} → List ℕ → Option (List ℕ) → Closed F → Type 0
GivesUp before written closed.Memory = written ≡ Some (before ++ memory_response)
GivesUp before written closed.WriteFault = (part : List ℕ) × Begins part memory_response × (written ≡ Some (before ++ part))
GivesUp before written other = ⊥

-- bytes that are no request were refused: the response that says why was written; where there was no memory for it, the one that says so
abbrev pub RefusesBytes : {F : Type 0} → HttpCause → List ℕ → Option (List ℕ) → Closed F → Type 0
RefusesBytes cause before written (closed.BadHttp why) = (why ≡ cause) × (written ≡ Some (before ++ wire_bad cause))
RefusesBytes cause before written closed.WriteFault =
    (part : List ℕ) × (Begins part (wire_bad cause) ⊎ Begins part memory_response) × (written ≡ Some (before ++ part))
RefusesBytes cause before written closed.Memory = written ≡ Some (before ++ memory_response)
RefusesBytes cause before written other = ⊥

-- what was to be written: the response in the one exchange, or the one that says that there was no memory
pub data IsWord (journal : Front) (count : ℕ) : List Exchange → List ℕ → Type 0 where
  answered : (x : Exchange) → IsTold journal x → IsWord journal count (x ∷ []) (response journal count x)
  memory : (xs : List Exchange) → IsWord journal count xs memory_response

-- what was written for a request behind `count` others, in these exchanges
abbrev pub WritesAnswer : {F : Type 0} → Front → ℕ → List ℕ → Option (List ℕ) → List Exchange → Result (Unit {0}) (Closed F) → Type 0
WritesAnswer journal count before written xs (Ok done) =
    (x : Exchange) × (xs ≡ x ∷ []) × IsTold journal x × (written ≡ Some (before ++ response journal count x))
WritesAnswer journal count before written xs (Err closed.WriteFault) =
    (word : List ℕ) × IsWord journal count xs word × (part : List ℕ) × Begins part word × (written ≡ Some (before ++ part))
WritesAnswer journal count before written xs (Err closed.Memory) = written ≡ Some (before ++ memory_response)
WritesAnswer journal count before written xs (Err (closed.KeeperFault why)) =
    (x : Exchange) × (xs ≡ x ∷ []) × IsCall x.asked × (written ≡ Some before)
WritesAnswer journal count before written xs (Err other) = ⊥

-- what may come of writing a response, if not that it was written
abbrev pub IsUnwritten : {F : Type 0} → Closed F → Type 0
IsUnwritten closed.WriteFault = Unit {0}
IsUnwritten closed.Memory = Unit {0}
IsUnwritten closed.End = ⊥
IsUnwritten closed.Rests = ⊥
IsUnwritten closed.Asked = ⊥
IsUnwritten closed.Last = ⊥
IsUnwritten closed.ReadFault = ⊥
IsUnwritten (closed.BadHttp why) = ⊥
IsUnwritten (closed.KeeperFault why) = ⊥

-- in which exchange a request is answered, and in which the answer is left out
abbrev pub IsAnswered : {F : Type 0} → Front → List Exchange → Result (Unit {0}) (Closed F) → Type 0
IsAnswered journal xs (Ok done) = (x : Exchange) × (xs ≡ x ∷ []) × IsTold journal x
IsAnswered journal xs (Err (closed.KeeperFault why)) = (x : Exchange) × (xs ≡ x ∷ []) × IsCall x.asked
IsAnswered journal xs (Err other) = IsUnwritten other

-- a request was answered with this
pub record Answers {F Link : Type 0} (old new : Passed) (desk desk_after : DeskState Link) (dir dir_after : DirState) (number : RequestNumber) (request : Request) (link link_after : StreamState) (result : Result (Unit {0}) (Closed F)) : Type 0 where
  pub exchanges : List Exchange
  pub works : Works old new desk desk_after dir dir_after exchanges
  pub are : AreOf number request exchanges
  pub is : IsAnswered new.seen exchanges result
  pub told : (before : List ℕ) → link.written ≡ Some before → WritesAnswer new.seen number.request before link_after.written exchanges result
  pub writes : OnlyWrites (result ≡ Err closed.WriteFault) link link_after

-- what is to be told of an answer: nothing where changes could not be kept; that there is no memory where there was none to decide or
-- to keep them; else the reply
abbrev pub told_where : {F : Type 0} → Bool → Reply → Replied F
told_where false reply = replied.Reply reply
told_where true reply = replied.Memory

abbrev pub told_by : {F : Type 0} → Kept F → Reply → Replied F
told_by keeping.Yes reply = told_where (is_memory reply) reply
told_by (keeping.Fault why) reply = replied.KeeperFault why
told_by keeping.Memory reply = replied.Memory

-- a request is refused before any call, for this cause
abbrev pub Refuses : Routed → Cause → Type 0
Refuses (routed.Command what) why = ⊥
Refuses (routed.Refused fault) why = why ≡ cause.Shape fault
Refuses routed.NoRoute why = why ≡ cause.NoRoute
Refuses (routed.NoMethod methods) why = why ≡ cause.NoMethod methods
Refuses routed.Memory why = ⊥
