-- Exchanges: a request on a link, what it asked of the machine, and the receipt that was noted for it. What the machine was at the
-- time is read off a journal, by the receipt.
use Rattle.std.specs.Prelude.{ℕ, false, true, Bool, List, [], ◌∷◌, ◌++◌, Option, None, map}
use Rattle.ks_base.specs.declared.receipt.Receipt.{Receipt}
use Rattle.ks_http.specs.declared.request.Request.{Request}
use Rattle.ks_machine.specs.declared.call.Call.{Call}
use Rattle.ks_machine.specs.declared.cause.Cause.{Cause}
use Rattle.ks_machine.specs.declared.change.Change.{Change}
use Rattle.ks_machine.specs.declared.reply.Reply.{Reply}
use Rattle.ks_machine.specs.declared.reply.Reply.TheVariants as reply
use Rattle.ks_machine.specs.Fronts.{Front, after, answer, cut}
use Rattle.ks_service.specs.Called.{made_by, numbered}

-- | what a request comes to: a call of the machine, or the cause for which it is refused before any
pub data Asked : Type 0 where
  calls : Call → Asked
  refused : Cause → Asked

-- | a request on a link, what it came to, and the receipt that was noted for it
pub record Exchange : Type 0 where
  pub request : Request
  pub asked : Asked
  pub receipt : Receipt

-- | the requests of exchanges, and their receipts
abbrev pub requests_of : List Exchange → List Request
requests_of xs = map (λ x. x.request) xs

abbrev pub receipts_of : List Exchange → List Receipt
receipts_of xs = map (λ x. x.receipt) xs

-- | the front, of whose changes none is said to be kept: no reply looks at that
abbrev pub bare : Front → Front
bare front = record front { kept = 0 }

-- | the front that a receipt cuts off a journal: so many changes, and its moment as the highest
abbrev pub cut_at : Front → Receipt → Front
cut_at journal receipt = bare (cut journal receipt.changes receipt.moment)

-- | the reply after a front
abbrev pub replied : Front → Asked → Reply
replied front (calls call) = answer front call
replied front (refused why) = reply.Refused why

abbrev pub reply_to : Front → Exchange → Reply
reply_to journal x = replied (cut_at journal x.receipt) x.asked

-- | the front afterwards: a request that is refused before any call leaves it, and so does a call for which there was no memory
abbrev pub left_by : Front → Asked → Bool → Front
left_by front (calls call) false = after front call
left_by front (calls call) true = front
left_by front (refused why) memory = front

abbrev pub front_after : Front → Exchange → Front
front_after journal x = left_by (cut_at journal x.receipt) x.asked x.receipt.memory

-- | the change that is made, if any
abbrev pub change_in : Front → Asked → Bool → Option Change
change_in front (calls call) false = made_by front call
change_in front (calls call) true = None
change_in front (refused why) memory = None

abbrev pub change_by : Front → Exchange → Option Change
change_by journal x = change_in (cut_at journal x.receipt) x.asked x.receipt.memory

-- | the numbers of the changes that these exchanges made
unfoldable pub made : Front → List Exchange → List ℕ
made journal [] = []
made journal (x ∷ xs) = numbered x.receipt.changes (change_by journal x) ++ made journal xs
