-- The session of a connection: the responses to its requests, and how it ends.
-- Source: RFC 9112, section 9; own.
use Rattle.std.specs.Prelude.{◌≡◌, ℕ, ◌+◌, ◌<◌, ◌≤◌, ◌==◌, Bool, true, false, ◌||◌, List, [], ◌∷◌, ◌++◌, length, Option, Some}
use Rattle.std.specs.List.{AllByRecursion}
use Rattle.ks_base.specs.declared.limits.TheConstants.{CONNECTION_REQUESTS}
use Rattle.ks_base.specs.declared.method.Method.{Method}
use Rattle.ks_base.specs.declared.method.Method.TheVariants as method
use Rattle.ks_http.specs.declared.cause.HttpCause.{HttpCause}
use Rattle.ks_http.specs.declared.cause.HttpCause.TheVariants.{Malformed}
use Rattle.ks_http.specs.declared.request.Request.{Request}
use Rattle.ks_http.specs.Next.{IsFirst, IsRefused, IsCut, IsUnfinished, ReadsWhile, Requests, Close, asked, last, ended, bad}
use Rattle.ks_http.specs.Requests.{AreFirst, AreFollowed}
use Rattle.ks_http.specs.Responses.{memory_response}
use Rattle.ks_machine.specs.Fronts.{Front}
use Rattle.ks_outside.specs.Streams.{Begins}
use Rattle.ks_render.specs.Answers.{wire, wire_bad}
use Rattle.ks_server.specs.declared.closed.Closed.{Closed}
use Rattle.ks_server.specs.declared.closed.Closed.TheVariants as closed
use Rattle.ks_server.specs.Exchanges.{Asked, calls, refused, Exchange, front_after, reply_to, requests_of}

-- the method is HEAD
abbrev pub is_head : Method → Bool
is_head method.Get = false
is_head method.Head = true
is_head method.Post = false
is_head method.Patch = false
is_head method.Put = false
is_head method.Delete = false
is_head method.Other = false

-- the connection ends with a request that asks for it, and with the 1,000,000th
abbrev pub ends_with : ℕ → Request → Bool
ends_with count request = request.close || (count + 1 == CONNECTION_REQUESTS)

-- | the response in the exchange behind `count` others
abbrev pub response : Front → ℕ → Exchange → List ℕ
response journal count x = wire (reply_to journal x) journal.opening.settings.url (is_head x.request.method) (ends_with count x.request)

unfoldable pub responses : Front → ℕ → List Exchange → List ℕ
responses journal count [] = []
responses journal count (x ∷ xs) = response journal count x ++ responses journal (count + 1) xs

-- | what follows the responses
abbrev pub last_word : Close → List ℕ
last_word asked = []
last_word last = []
last_word ended = []
last_word (bad why) = wire_bad why

-- | the responses of a connection in their order, and what follows them
abbrev pub session : Front → List Exchange → Close → List ℕ
session journal xs close = responses journal 0 xs ++ last_word close

-- | after a call, all changes of this front are among so many that are kept where a stop cannot undo them
abbrev pub AreKept : ℕ → Asked → Front → Type 0
AreKept kept (calls call) front = length front.changes ≤ kept
AreKept kept (refused why) front = Unit {0}

-- | what may be told to the client: there was memory for it, and each change that it can show is kept
pub record IsTold (journal : Front) (x : Exchange) : Type 0 where
  pub decided : x.receipt.memory ≡ false
  pub kept : AreKept journal.kept x.asked (front_after journal x)

abbrev pub AreTold : Front → List Exchange → Type 0
AreTold journal xs = AllByRecursion (λ x. IsTold journal x) xs

-- | the whole session was written behind what was there before; where no request ended it, the input has ended
pub record WroteAll (journal : Front) (input before : List ℕ) (left written : Option (List ℕ)) (xs : List Exchange) (close : Close) : Type 0 where
  pub are : Requests 0 input (requests_of xs) close
  pub told : AreTold journal xs
  pub written_is : written ≡ Some (before ++ session journal xs close)
  pub whole : close ≡ ended → left ≡ Some []
  -- of what follows the requests no more was read than had to be
  pub behind : List ℕ
  pub followed : AreFollowed input (requests_of xs) behind
  pub needed : ReadsWhile IsUnfinished behind left

-- | the link rests between two requests: those that were read, one at least, have their responses, and no byte more was read
pub record Rested (journal : Front) (input before : List ℕ) (left written : Option (List ℕ)) (xs : List Exchange) : Type 0 where
  pub read : List ℕ
  pub rest : List ℕ
  pub input_is : input ≡ read ++ rest
  pub left_is : left ≡ Some rest
  pub are : AreFirst 0 read (requests_of xs) []
  pub some : 0 < length xs
  pub told : AreTold journal xs
  pub written_is : written ≡ Some (before ++ responses journal 0 xs)

-- | the input could not be read further: the responses to the requests that were read whole were written
pub record ReadShort (journal : Front) (input before : List ℕ) (left written : Option (List ℕ)) (xs : List Exchange) : Type 0 where
  pub read : List ℕ
  pub rest : List ℕ
  pub input_is : input ≡ read ++ rest
  pub left_is : left ≡ Some rest
  pub behind : List ℕ
  pub are : AreFirst 0 read (requests_of xs) behind
  pub begun : IsUnfinished behind
  pub told : AreTold journal xs
  pub written_is : written ≡ Some (before ++ responses journal 0 xs)

-- | one exchange at most, for the first request of the bytes
abbrev pub IsNextOf : List ℕ → List Exchange → Type 0
IsNextOf bytes [] = Unit {0}
IsNextOf bytes (x ∷ []) = (rest : List ℕ) × IsFirst bytes x.request rest
IsNextOf bytes (x ∷ y ∷ xs) = ⊥

-- | what comes next behind `count` responses where these bytes are next, and in which exchange, if in one
pub data IsNextWord (journal : Front) (count : ℕ) (bytes : List ℕ) : List Exchange → List ℕ → Type 0 where
  answered : (x : Exchange) (rest : List ℕ) → IsFirst bytes x.request rest → IsTold journal x → IsNextWord journal count bytes (x ∷ []) (response journal count x)
  refusal : (why : HttpCause) → IsRefused bytes why → IsNextWord journal count bytes [] (wire_bad why)
  cut : IsCut bytes → IsNextWord journal count bytes [] (wire_bad Malformed)
  memory : (over : List Exchange) → IsNextOf bytes over → IsNextWord journal count bytes over memory_response

-- | the output took no more: the first responses were written, and the front of what came next
pub record WroteShort (journal : Front) (input before : List ℕ) (written : Option (List ℕ)) (xs : List Exchange) : Type 0 where
  pub first : List Exchange
  pub over : List Exchange
  pub are_both : xs ≡ first ++ over
  pub behind : List ℕ
  pub are : AreFirst 0 input (requests_of first) behind
  pub told : AreTold journal first
  pub word : List ℕ
  pub is_next : IsNextWord journal (length first) behind over word
  pub part : List ℕ
  pub begins : Begins part word
  pub written_is : written ≡ Some (before ++ (responses journal 0 first ++ part))

-- | there was no more memory: the first responses were written, and the one that says so
pub record RanOut (journal : Front) (input before : List ℕ) (written : Option (List ℕ)) (xs : List Exchange) : Type 0 where
  pub first : List Exchange
  pub over : List Exchange
  pub are_both : xs ≡ first ++ over
  pub behind : List ℕ
  pub are : AreFirst 0 input (requests_of first) behind
  pub told : AreTold journal first
  pub is_next : IsNextOf behind over
  pub written_is : written ≡ Some (before ++ (responses journal 0 first ++ memory_response))

-- | what was asked is a call of the machine
abbrev pub IsCall : Asked → Type 0
IsCall (calls call) = Unit {0}
IsCall (refused why) = ⊥

-- | changes could not be kept: the response to the call that could show them was left out
pub record LeftOut (journal : Front) (input before : List ℕ) (written : Option (List ℕ)) (xs : List Exchange) : Type 0 where
  pub first : List Exchange
  pub over : Exchange
  pub are_both : xs ≡ first ++ over ∷ []
  pub behind : List ℕ
  pub are : AreFirst 0 input (requests_of first) behind
  pub told : AreTold journal first
  pub rest : List ℕ
  pub is_next : IsFirst behind over.request rest
  pub is_call : IsCall over.asked
  pub written_is : written ≡ Some (before ++ responses journal 0 first)

-- | how a connection over an input ends, and what it then has written behind what was there before
abbrev pub EndsSession : {F : Type 0} → Front → List ℕ → List ℕ → Option (List ℕ) → Option (List ℕ) → List Exchange → Closed F → Type 0
EndsSession journal input before left written xs closed.End = WroteAll journal input before left written xs ended
EndsSession journal input before left written xs closed.Rests = Rested journal input before left written xs
EndsSession journal input before left written xs closed.Asked = WroteAll journal input before left written xs asked
EndsSession journal input before left written xs closed.Last = WroteAll journal input before left written xs last
EndsSession journal input before left written xs (closed.BadHttp why) = WroteAll journal input before left written xs (bad why)
EndsSession journal input before left written xs closed.ReadFault = ReadShort journal input before left written xs
EndsSession journal input before left written xs closed.WriteFault = WroteShort journal input before written xs
EndsSession journal input before left written xs closed.Memory = RanOut journal input before written xs
EndsSession journal input before left written xs (closed.KeeperFault why) = LeftOut journal input before written xs
