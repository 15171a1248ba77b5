-- Workers that were told the same have the same exchanges.
use Rattle.std.proofs.Common.{◌≡◌, ℕ, ◌+◌, Bool, true, false, List, [], ◌∷◌, ◌++◌, length, map, Result, Ok, Err, refl, sym, ap, subst, ◌∙◌}
use Rattle.std.proofs.lemmas.List.{length-map, map-append}
use Rattle.std.specs.List.{AllByRecursion, AllZip}
use Rattle.ks_base.specs.declared.faults.KeysFault.{KeysFault}
use Rattle.ks_base.specs.declared.faults.KeysFault.TheVariants as keys
use Rattle.ks_base.specs.declared.key.Key.{Key}
use Rattle.ks_base.specs.declared.receipt.Receipt.{Receipt}
use Rattle.ks_http.specs.declared.request.Request.{Request}
use Rattle.ks_keyfiles.specs.Folders.{folder_of}
use Rattle.ks_keep.specs.declared.keeping.KeeperFailed.{KeeperFailed}
use Rattle.ks_machine.specs.declared.call.Call.{Call}
use Rattle.ks_machine.specs.declared.call.FolderRead.{FolderRead}
use Rattle.ks_machine.specs.declared.call.FolderRead.TheVariants as folder
use Rattle.ks_machine.specs.declared.command.Command.{Command}
use Rattle.ks_machine.specs.Actions.{requirements}
use Rattle.ks_machine.specs.Fit.{IsFolder}
use Rattle.ks_machine.specs.Fronts.{Front}
use Rattle.ks_outside.specs.Desks.{next_reading}
use Rattle.ks_outside.specs.Files.{KeyFile}
use Rattle.ks_outside.specs.Streams.{StreamState}
use Rattle.ks_routes.specs.declared.routed.Routed.{Routed}
use Rattle.ks_routes.specs.declared.routed.Routed.TheVariants as routed
use Rattle.ks_routes.specs.Routes.{command_of}
use Rattle.ks_server.specs.Exchanges.{Asked, calls, refused, Exchange, receipts_of, requests_of}
use Rattle.ks_server.specs.Ties.{Asks, HasFolder, HasReading, HaveReadings, IsAsked, IsCallOf, IsReadFor, IsReadFrom, is_fault, readings_after}
use Rattle.ks_server.specs.Workers.{AreVisited, IsVisited, Visit, exchanges_of}
use Rattle.ks_top.specs.Headline.{TellsOf, Worker, exchanges_by}
use Rattle.ks_top.specs.Laws.{SameBytes, TellsAlike}
use Rattle.ks_top.proofs.FollowLemmas.{followed_once, session_follow}

-- what was read of a folder, from what it holds and whether it failed

abbrev said : Result (List (ℕ × Key)) KeysFault → FolderRead
said (Ok found) = folder.Keys found
said (Err fault) = folder.Fault fault

abbrev read_by : Bool → Result (List (ℕ × Key)) KeysFault → FolderRead
read_by true held = folder.Fault keys.Failed
read_by false held = said held

read_is : (files : List KeyFile) (read : FolderRead) → IsFolder read → IsReadFrom files read → read ≡ read_by (is_fault read) (folder_of files)
read_is files folder.Unused is from = absurd is
read_is files (folder.Keys found) is from = ap said (sym from)
read_is files (folder.Fault keys.Failed) is from = refl
read_is files (folder.Fault keys.NoKeys) is from = ap said (sym from)
read_is files (folder.Fault (keys.BadKey index)) is from = ap said (sym from)
read_is files (folder.Fault keys.TooMany) is from = ap said (sym from)
read_is files (folder.Fault keys.AlreadySet) is from = absurd is
read_is files (folder.Fault keys.IndexEnd) is from = absurd is
read_is files (folder.Fault keys.Memory) is from = absurd is

one_read : (files : List KeyFile) (loads : Bool) (a b : FolderRead) → IsReadFor loads a → IsReadFor loads b → is_fault a ≡ is_fault b → IsReadFrom files a → IsReadFrom files b → a ≡ b
one_read files true a b first second failed from from_too =
    read_is files a first from ∙ ap (λ fault. read_by fault (folder_of files)) failed ∙ sym (read_is files b second from_too)
one_read files false a b first second failed from from_too = first ∙ sym second

-- what a request asks, from its receipt, the readings and the folder

one_call : (files : List KeyFile) (readings : List ℕ) (what : Command) (request : Request) (receipt : Receipt) (a b : Call) → IsCallOf what request a receipt → IsCallOf what request b receipt
    → a.reading ≡ next_reading readings → b.reading ≡ next_reading readings → IsReadFrom files a.folder → IsReadFrom files b.folder → a ≡ b
one_call files readings what request receipt a b first second reads reads_too from from_too =
    let command : a.command ≡ b.command = first.command ∙ sym second.command in
    let caller : a.caller ≡ b.caller = first.caller ∙ sym second.caller in
    let subject : a.subject ≡ b.subject = first.subject ∙ sym second.subject in
    let reading : a.reading ≡ b.reading = reads ∙ sym reads_too in
    let draw : a.draw ≡ b.draw = first.draw ∙ sym second.draw in
    let read : a.folder ≡ b.folder = one_read files (requirements what).loads a.folder b.folder first.read second.read (sym first.failed ∙ second.failed) from from_too in
    λ i. record { command = command i; caller = caller i; subject = subject i; reading = reading i; draw = draw i; folder = read i }

one_asked : (files : List KeyFile) (readings : List ℕ) (route : Routed) (request : Request) (receipt : Receipt) (a b : Asked) → Asks route request a receipt → Asks route request b receipt
    → HasReading a readings → HasReading b readings → HasFolder files a → HasFolder files b → a ≡ b
one_asked files readings (routed.Command what) request receipt (calls a) (calls b) first second reads reads_too from from_too =
    ap calls (one_call files readings what request receipt a b first second reads reads_too from from_too)
one_asked files readings (routed.Command what) request receipt (calls a) (refused why) first second reads reads_too from from_too = absurd second
one_asked files readings (routed.Command what) request receipt (refused why) b first second reads reads_too from from_too = absurd first
one_asked files readings (routed.Refused fault) request receipt (calls a) b first second reads reads_too from from_too = absurd first
one_asked files readings (routed.Refused fault) request receipt (refused why) (calls b) first second reads reads_too from from_too = absurd second
one_asked files readings (routed.Refused fault) request receipt (refused why) (refused other) first second reads reads_too from from_too = ap refused (first.0 ∙ sym second.0)
one_asked files readings routed.NoRoute request receipt (calls a) b first second reads reads_too from from_too = absurd first
one_asked files readings routed.NoRoute request receipt (refused why) (calls b) first second reads reads_too from from_too = absurd second
one_asked files readings routed.NoRoute request receipt (refused why) (refused other) first second reads reads_too from from_too = ap refused (first.0 ∙ sym second.0)
one_asked files readings (routed.NoMethod methods) request receipt (calls a) b first second reads reads_too from from_too = absurd first
one_asked files readings (routed.NoMethod methods) request receipt (refused why) (calls b) first second reads reads_too from from_too = absurd second
one_asked files readings (routed.NoMethod methods) request receipt (refused why) (refused other) first second reads reads_too from from_too = ap refused (first.0 ∙ sym second.0)
one_asked files readings routed.Memory request receipt a b first second reads reads_too from from_too = absurd first

-- the same requests with the same receipts, over the same readings and the same folder

first_same : {A : Type 0} (x y : A) (xs ys : List A) → x ∷ xs ≡ y ∷ ys → x ≡ y
first_same x y xs ys same = cc

no_first : {A : Type 0} (y : A) (ys : List A) → [] ≡ y ∷ ys → ⊥
no_first y ys same = cc

others_same : {A : Type 0} (x y : A) (xs ys : List A) → x ∷ xs ≡ y ∷ ys → xs ≡ ys
others_same x y xs ys same = cc

same_exchanges : (files : List KeyFile) (readings rest tail : List ℕ) (xs ys : List Exchange) → requests_of xs ≡ requests_of ys → receipts_of xs ≡ receipts_of ys
    → AllByRecursion IsAsked xs → AllByRecursion IsAsked ys → HaveReadings readings xs rest → HaveReadings readings ys tail
    → AllByRecursion (λ (x : Exchange). HasFolder files x.asked) xs → AllByRecursion (λ (y : Exchange). HasFolder files y.asked) ys → xs ≡ ys
same_exchanges files readings rest tail [] [] requests receipts asked asked_too reads reads_too from from_too = refl
same_exchanges files readings rest tail [] (y ∷ ys) requests receipts asked asked_too reads reads_too from from_too = absurd (no_first y.request (requests_of ys) requests)
same_exchanges files readings rest tail (x ∷ xs) [] requests receipts asked asked_too reads reads_too from from_too = absurd (no_first x.request (requests_of xs) (sym requests))
same_exchanges files readings rest tail (x ∷ xs) (y ∷ ys) requests receipts asked asked_too reads reads_too from from_too =
    let request : x.request ≡ y.request = first_same x.request y.request (requests_of xs) (requests_of ys) requests in
    let receipt : x.receipt ≡ y.receipt = first_same x.receipt y.receipt (receipts_of xs) (receipts_of ys) receipts in
    let of_x : Asks (command_of y.request) y.request x.asked y.receipt =
    subst (λ r. Asks (command_of y.request) y.request x.asked r) receipt (subst (λ r. Asks (command_of r) r x.asked x.receipt) request asked.0) in
    let what : x.asked ≡ y.asked = one_asked files readings (command_of y.request) y.request y.receipt x.asked y.asked of_x asked_too.0 reads.0 reads_too.0 from.0 from_too.0 in
    let behind : HaveReadings (readings_after x.asked readings) ys tail = subst (λ a. HaveReadings (readings_after a readings) ys tail) (sym what) reads_too.1 in
    let others = same_exchanges files (readings_after x.asked readings) rest tail xs ys (others_same x.request y.request (requests_of xs) (requests_of ys) requests)
    (others_same x.receipt y.receipt (receipts_of xs) (receipts_of ys) receipts) asked.1 asked_too.1 reads.1 behind from.1 from_too.1 in
    λ i. record { request = request i; asked = what i; receipt = receipt i } ∷ others i

-- connections that were told the same bytes

same_size : (xs ys : List Exchange) → receipts_of xs ≡ receipts_of ys → length (requests_of xs) ≡ length (requests_of ys)
same_size xs ys same =
    length-map xs (λ x. x.request) ∙ sym (length-map xs (λ x. x.receipt)) ∙ ap (λ l. length l) same ∙ length-map ys (λ y. y.receipt) ∙ sym (length-map ys (λ y. y.request))

same_requests : (journal other : Front) (number count : ℕ) (v w : Visit KeeperFailed StreamState) → IsVisited (λ link. link) journal number v → IsVisited (λ link. link) other count w
    → SameBytes v w → requests_of v.exchanges ≡ requests_of w.exchanges
same_requests journal other number count v w visited visited_too same =
    let one = session_follow v.why journal same.bytes same.written.0 v.returned.left v.returned.written v.exchanges (visited.told same.bytes same.written.0 same.told.0 same.written.1) in
    let two = session_follow w.why other same.bytes same.written_too.0 w.returned.left w.returned.written w.exchanges (visited_too.told same.bytes same.written_too.0 same.told.1 same.written_too.1) in
    followed_once same.bytes (requests_of v.exchanges) (requests_of w.exchanges) one.rest two.rest (same_size v.exchanges w.exchanges same.receipts) one.are two.are

-- what is read off each exchange is the same, connection by connection
by_visits : {A : Type 0} (f : Exchange → A) (v w : Visit KeeperFailed StreamState) (vs ws : List (Visit KeeperFailed StreamState)) → map f v.exchanges ≡ map f w.exchanges
    → map f (exchanges_of vs) ≡ map f (exchanges_of ws) → map f (exchanges_of (v ∷ vs)) ≡ map f (exchanges_of (w ∷ ws))
by_visits f v w vs ws here there =
    map-append f v.exchanges (exchanges_of vs) ∙ (λ i. here i ++ there i) ∙ sym (map-append f w.exchanges (exchanges_of ws))

all_requests : (journal other : Front) (number count : ℕ) (vs ws : List (Visit KeeperFailed StreamState)) → AreVisited (λ link. link) journal number vs → AreVisited (λ link. link) other count ws
    → AllZip SameBytes vs ws → requests_of (exchanges_of vs) ≡ requests_of (exchanges_of ws)
all_requests journal other number count [] [] visited visited_too same = refl
all_requests journal other number count [] (w ∷ ws) visited visited_too same = absurd same
all_requests journal other number count (v ∷ vs) [] visited visited_too same = absurd same
all_requests journal other number count (v ∷ vs) (w ∷ ws) visited visited_too same =
    by_visits (λ (x : Exchange). x.request) v w vs ws (same_requests journal other _ _ v w visited.0 visited_too.0 same.0)
    (all_requests journal other (number + 1) (count + 1) vs ws visited.1 visited_too.1 same.1)

all_receipts : (vs ws : List (Visit KeeperFailed StreamState)) → AllZip SameBytes vs ws → receipts_of (exchanges_of vs) ≡ receipts_of (exchanges_of ws)
all_receipts [] [] same = refl
all_receipts [] (w ∷ ws) same = absurd same
all_receipts (v ∷ vs) [] same = absurd same
all_receipts (v ∷ vs) (w ∷ ws) same = by_visits (λ (x : Exchange). x.receipt) v w vs ws same.0.receipts (all_receipts vs ws same.1)

-- workers

worker_same : {Link : Type 0} (first other journal journal_too : Front) (v w : Worker Link) → TellsOf first journal v → TellsOf other journal_too w → TellsAlike v w
    → exchanges_of v.connections ≡ exchanges_of w.connections
worker_same first other journal journal_too v w tells tells_too same =
    let xs = exchanges_of v.connections in
    let ys = exchanges_of w.connections in
    let read = tells.tied.readings same.readings same.given.0 in
    let read_too = tells_too.tied.readings same.readings same.given.1 in
    same_exchanges same.files same.readings read.0 read_too.0 xs ys (all_requests journal journal_too 0 0 v.connections w.connections tells.told tells_too.told same.links)
    (all_receipts v.connections w.connections same.links) tells.tied.asked tells_too.tied.asked read.1 read_too.1
    (tells.tied.folder same.files same.held.0) (tells_too.tied.folder same.files same.held.1)

pub workers_same : {Link : Type 0} (first other journal journal_too : Front) (vs ws : List (Worker Link)) → AllByRecursion (TellsOf first journal) vs → AllByRecursion (TellsOf other journal_too) ws
    → AllZip TellsAlike vs ws → exchanges_by vs ≡ exchanges_by ws
workers_same first other journal journal_too [] [] tells tells_too same = refl
workers_same first other journal journal_too [] (w ∷ ws) tells tells_too same = absurd same
workers_same first other journal journal_too (v ∷ vs) [] tells tells_too same = absurd same
workers_same first other journal journal_too (v ∷ vs) (w ∷ ws) tells tells_too same =
    let here = worker_same first other journal journal_too v w tells.0 tells_too.0 same.0 in
    let there = workers_same first other journal journal_too vs ws tells.1 tells_too.1 same.1 in
    λ i. here i ++ there i
