-- One exchange: what a call, or a refusal before any, does to the pass, the desk and the folder.
use Rattle.std.proofs.Common.{◌≡◌, ◌⊎◌, inl, inr, ℕ, ◌+◌, ◌≤◌, Bool, true, false, if◌then◌else◌, List, [], ◌∷◌, ◌++◌, length, take, drop, Option, Some, None, refl, sym, ap, subst, ◌∙◌, arith, append-nil}
use Rattle.std.proofs.lemmas.List.{take-append-drop}
use Rattle.ks_base.specs.declared.receipt.Drawn.{Drawn}
use Rattle.ks_base.specs.declared.receipt.Drawn.TheVariants.{Unused}
use Rattle.ks_base.specs.declared.receipt.Receipt.{Receipt}
use Rattle.ks_http.specs.declared.request.Request.{Request}
use Rattle.ks_machine.proofs.FrontLemmas.{event_is_cut_off, reflexive, transitive}
use Rattle.ks_machine.specs.declared.call.Call.{Call}
use Rattle.ks_machine.specs.declared.call.FolderRead.{FolderRead}
use Rattle.ks_machine.specs.declared.cause.Cause.{Cause}
use Rattle.ks_machine.specs.declared.change.Change.{Change}
use Rattle.ks_machine.specs.declared.change.Entry.{Entry}
use Rattle.ks_machine.specs.declared.command.Command.{Command}
use Rattle.ks_machine.specs.declared.reply.Reply.TheVariants as reply
use Rattle.ks_machine.specs.Actions.{requirements}
use Rattle.ks_machine.specs.Attempts.{everything}
use Rattle.ks_machine.specs.Fit.{Fit, IsDrawFor, IsFolderFor}
use Rattle.ks_machine.specs.Fronts.{Front, IsSound, after, change_of as change_stepped, cut, replay, then as with_change}
use Rattle.ks_machine.specs.Moment.{moment_of}
use Rattle.ks_machine.specs.Outcomes.{bytes_in}
use Rattle.ks_machine.specs.Steps.{step}
use Rattle.ks_outside.proofs.CallLemmas.{makes_both}
use Rattle.ks_outside.specs.declared.desk_call.DeskCall.TheVariants as desk_call
use Rattle.ks_outside.specs.Desks.{DeskState, Makes, later_readings, next_reading}
use Rattle.ks_outside.specs.Files.{DirState, KeyFile}
use Rattle.ks_outside.specs.Streams.{Appends}
use Rattle.ks_routes.proofs.RangeLemmas.{commands_in_range}
use Rattle.ks_routes.specs.declared.routed.Routed.{Routed}
use Rattle.ks_routes.specs.declared.routed.Routed.TheVariants as routed
use Rattle.ks_routes.specs.Routes.{command_of}
use Rattle.ks_server.proofs.OrderLemmas.{bare_later, made_one}
use Rattle.ks_server.proofs.TieLemmas.{rises_none}
use Rattle.ks_server.proofs.WorkLemmas.{moves_none}
use Rattle.ks_server.specs.declared.number.RequestNumber.{RequestNumber}
use Rattle.ks_server.specs.declared.replied.Replied.{Replied}
use Rattle.ks_server.specs.declared.replied.Replied.TheVariants as replied
use Rattle.ks_server.specs.Exchanges.{calls, refused, Exchange, bare, change_in, cut_at, front_after, left_by, reply_to}
use Rattle.ks_server.specs.Orders.{AreBy, IsLate}
use Rattle.ks_server.specs.Sessions.{AreKept}
use Rattle.ks_server.specs.Ties.{Asks, IsAsked, IsDrawOf, IsPlain, IsReadFor, IsReadFrom, Rises, Tied, calls_in, fills_for, is_failed_draw, is_fault}
use Rattle.ks_server.specs.Work.{PassMoves}
use Rattle.ks_server.specs.steps.Answers.{Exchanges, IsReadied, Refuses, Says, told_by, told_where}
use Rattle.ks_service.specs.declared.answer.Answer.{Answer}
use Rattle.ks_service.proofs.EventLemmas.{answer_bare, made_bare}
use Rattle.ks_service.specs.Called.{Called, IsDecidedUnless, IsNextUnless, capped, is_memory, numbered}
use Rattle.ks_state.specs.declared.decides.Kept.{Kept}
use Rattle.ks_state.specs.declared.decides.Kept.TheVariants as keeping
use Rattle.ks_turn.specs.Passes.{Passed}

-- the machine does not look at how many changes are kept

then_bare : (f : Front) (moment : ℕ) (change : Option Change) → with_change (bare f) moment change ≡ bare (with_change f moment change)
then_bare f moment None = refl
then_bare f moment (Some change) = refl

after_bare : (f : Front) (call : Call) → after (bare f) call ≡ bare (after f call)
unfolding after replay
after_bare f call = then_bare f (moment_of f.high call.reading) (change_stepped (step everything (replay f) call))

-- places

taken_by : (moment n : ℕ) (entries : List Entry) → AreBy moment entries → AreBy moment (take n entries)
taken_by moment n entries h = first (take n entries) (drop n entries) (subst (λ l. AreBy moment l) (sym (take-append-drop n entries)) h) where
  first : (xs ys : List Entry) → AreBy moment (xs ++ ys) → AreBy moment xs
  first [] ys h = tt
  first (x ∷ xs) ys h = (h.0, first xs ys h.1)

-- a call

front_by : {F : Type 0} (memory : Bool) (p q : Passed) (call : Call) (at : Front) (said : Answer F) → IsDecidedUnless memory p q call at said
    → left_by (bare at) (calls call) memory ≡ bare q.seen
front_by false p q call at said h = after_bare at call ∙ sym (ap bare h.seen)
front_by true p q call at said h = sym (ap bare h.seen)

own_by : {F : Type 0} (memory : Bool) (p q : Passed) (call : Call) (at : Front) (said : Answer F) → IsDecidedUnless memory p q call at said
    → q.own ≡ p.own ++ numbered said.changes (change_in (bare at) (calls call) memory)
own_by false p q call at said h = h.own ∙ ap (λ c. p.own ++ numbered said.changes c) (sym (made_bare at call))
own_by true p q call at said h = h.own ∙ sym (append-nil p.own)

late_by : {F : Type 0} (memory : Bool) (p q : Passed) (call : Call) (at : Front) (said : Answer F) → IsDecidedUnless memory p q call at said
    → IsLate (calls call) memory said.moment
late_by false p q call at said h = h.late
late_by true p q call at said h = tt

next_by : (memory : Bool) (seen : Front) (call : Call) (moment : ℕ) → IsNextUnless memory seen call moment → IsNextUnless memory (bare seen) call moment
next_by false seen call moment h = h
next_by true seen call moment h = h

-- what is noted of a request
abbrev pub receipt_of : RequestNumber → ℕ → ℕ → Drawn → Bool → Bool → Receipt
receipt_of number changes moment drawn failed memory = record {
  connection = number.connection;
  request = number.request;
  changes = changes;
  moment = moment;
  draw = drawn;
  folder = failed;
  memory = memory;
}

-- a call was made through a pass, with this request and this receipt
module _ {F : Type 0} (p q : Passed) (call : Call) (said : Answer F) (h : Called p q call said) (request : Request) (number : RequestNumber) (drawn : Drawn) (failed : Bool) where
  abbrev pub exchange_of : Exchange
  exchange_of = record { request = request; asked = calls call; receipt = receipt_of number said.changes said.moment drawn failed (is_memory said.reply) }

  abbrev at : Front
  at = cut q.seen said.changes said.moment

  left : front_after q.seen exchange_of ≡ bare q.seen
  left = front_by (is_memory said.reply) p q call at said h.decided

  pub called_moves : PassMoves p q (exchange_of ∷ [])
  called_moves =
      let top : (q.top ≡ p.top) ⊎ ((q.top ≡ capped call.reading) ⊎ ⊥) = elim h.top [ inl same ↦ inl same | inr is ↦ inr (inl is) ] in
      record {
        turn = h.turn;
        later = transitive p.seen at q.seen h.goes_on h.is_cut;
        in_order = (
          bare_later p.seen at h.goes_on,
          record {
            within = h.within;
            lawful = subst (λ m. AreBy m (take said.changes q.seen.changes)) h.moment (taken_by q.seen.high said.changes q.seen.changes h.sound.moments);
            late = late_by (is_memory said.reply) p q call at said h.decided;
          },
          left,
        );
        own = own_by (is_memory said.reply) p q call at said h.decided ∙ ap (λ l. p.own ++ l) (sym (made_one q.seen exchange_of));
        top = top;
        weight = h.weight;
        alone = λ all. let next = h.alone all in ((next.0, next_by (is_memory said.reply) p.seen call said.moment next.1), tt);
      }

  -- where the answer says so, all changes are kept
  keeps : said.kept ≡ keeping.Yes → AreKept q.seen.kept (calls call) (front_after q.seen exchange_of)
  keeps kept =
      let same : length (front_after q.seen exchange_of).changes ≡ length q.seen.changes = ap (λ front. length front.changes) left in
      let all = h.kept kept in
      omega (arith, same, all)

  replies : is_memory said.reply ≡ false → said.reply ≡ reply_to q.seen exchange_of
  replies decided =
      let d = subst (λ b. IsDecidedUnless b p q call at said) decided h.decided in
      d.reply ∙ sym (answer_bare at call)

  says_where : (memory : Bool) → is_memory said.reply ≡ memory → said.kept ≡ keeping.Yes → Says {F = F} q.seen (exchange_of ∷ []) (told_where memory said.reply)
  says_where false decided kept = (exchange_of, refl, record { decided = decided; kept = keeps kept }, replies decided, h.tellable)
  says_where true decided kept = tt

  -- what is told of the answer is the reply in the exchange
  pub called_says : (kept : Kept F) → said.kept ≡ kept → Says q.seen (exchange_of ∷ []) (told_by kept said.reply)
  called_says keeping.Yes is = says_where (is_memory said.reply) refl is
  called_says (keeping.Fault why) is = (exchange_of, refl, tt)
  called_says keeping.Memory is = tt

-- ties

rises_once : (b : Bool) (before after : ℕ) → Rises (if b then 1 else 0) before after → Rises (0 + (if b then 1 else 0)) before after
rises_once b before after h = subst (λ n. Rises n before after) (omega arith) h

-- the call of a command, with the tokens of its request
abbrev pub call_for : Request → Command → ℕ → Drawn → FolderRead → Call
call_for request command reading drawn read = record { command = command; caller = request.auth; subject = request.subject; reading = reading; draw = drawn; folder = read }

-- what a command asks for, and what was drawn and read for it
pub record HasInputs (request : Request) (command : Command) (draws loads : Bool) (drawn : Drawn) (read : FolderRead) : Type 0 where
  pub is : command_of request ≡ routed.Command command
  pub draws_is : draws ≡ (requirements command).draws
  pub loads_is : loads ≡ (requirements command).loads
  pub drawn_is : IsDrawOf draws drawn
  pub read_is : IsReadFor loads read

-- the steps of a call, from one state of the desk to the next
pub record Steps {F Link : Type 0} (p q : Passed) (desk desk_ready desk_read desk_drawn desk_noted : DeskState Link) (dir dir_read : DirState) (number : RequestNumber) (request : Request) (command : Command) (reading : ℕ) (drawn : Drawn) (read : FolderRead) (call : Call) (said : Answer F) (failed memory : Bool) : Type 0 where
  pub draws : Bool
  pub loads : Bool
  pub inputs : HasInputs request command draws loads drawn read
  pub call_is : call ≡ call_for request command reading drawn read
  pub called : Called p q call said
  pub failed_is : failed ≡ is_fault read
  pub memory_is : memory ≡ is_memory said.reply
  pub folder : (files : List KeyFile) → dir.files ≡ Some files → IsReadFrom files read
  pub folder_faults : Rises (if is_fault read then 1 else 0) dir.faults dir_read.faults
  pub files : dir_read.files ≡ dir.files
  pub ready : IsReadied desk desk_ready
  pub read_told : (readings : List ℕ) → desk_ready.readings ≡ Some readings → (reading ≡ next_reading readings) × (desk_read.readings ≡ Some (later_readings readings))
  pub read_kept : desk_read ≡ record desk_ready { readings = desk_read.readings; calls = desk_read.calls }
  pub read_calls : Makes (desk_call.Reading ∷ []) desk_ready.calls desk_read.calls
  pub drawn_told : (bytes : List ℕ) → desk_read.random ≡ Some bytes → (rest : List ℕ) × (bytes ≡ bytes_in drawn ++ rest) × (desk_drawn.random ≡ Some rest)
  pub drawn_faults : Rises (if is_failed_draw drawn then 1 else 0) desk_read.fill_faults desk_drawn.fill_faults
  pub drawn_kept : desk_drawn ≡ record desk_read { random = desk_drawn.random; fill_faults = desk_drawn.fill_faults; calls = desk_drawn.calls }
  pub drawn_calls : Makes (fills_for drawn) desk_read.calls desk_drawn.calls
  pub noted_told : Appends (receipt_of number said.changes said.moment drawn failed memory ∷ []) desk_drawn.receipts desk_noted.receipts
  pub noted_kept : desk_noted ≡ record desk_drawn { receipts = desk_noted.receipts; receipt_room = desk_noted.receipt_room; calls = desk_noted.calls }
  pub noted_calls : Makes (desk_call.Note ∷ []) desk_drawn.calls desk_noted.calls

module _ {F Link : Type 0} {p q : Passed} {desk desk_ready desk_read desk_drawn desk_noted : DeskState Link} {dir dir_read : DirState} {number : RequestNumber} {request : Request} {command : Command} {reading : ℕ} {drawn : Drawn} {read : FolderRead} {call : Call} {said : Answer F} {failed memory : Bool}
    (h : Steps p q desk desk_ready desk_read desk_drawn desk_noted dir dir_read number request command reading drawn read call said failed memory) where
  called_for : Called p q (call_for request command reading drawn read) said
  called_for = subst (λ made. Called p q made said) h.call_is h.called

  abbrev made_exchange : Exchange
  made_exchange = exchange_of p q (call_for request command reading drawn read) said called_for request number drawn failed

  asks : IsAsked made_exchange
  asks = subst (λ routed. Asks routed request (calls (call_for request command reading drawn read)) made_exchange.receipt) (sym h.inputs.is) (record {
    command = refl;
    caller = refl;
    subject = refl;
    draw = refl;
    drawn = subst (λ draws. IsDrawOf draws drawn) h.inputs.draws_is h.inputs.drawn_is;
    read = subst (λ loads. IsReadFor loads read) h.inputs.loads_is h.inputs.read_is;
    failed = h.failed_is;
  })

  noted : Appends (made_exchange.receipt ∷ []) desk_drawn.receipts desk_noted.receipts
  noted = subst (λ b. Appends (receipt_of number said.changes said.moment drawn failed b ∷ []) desk_drawn.receipts desk_noted.receipts) h.memory_is h.noted_told

  calls_made : Makes (calls_in made_exchange) desk.calls desk_noted.calls
  calls_made =
      let decided = makes_both (fills_for drawn) (desk_call.Note ∷ []) desk_read.calls desk_drawn.calls desk_noted.calls h.drawn_calls h.noted_calls in
      let read = makes_both (desk_call.Reading ∷ []) (fills_for drawn ++ desk_call.Note ∷ []) desk_ready.calls desk_read.calls desk_noted.calls h.read_calls decided in
      makes_both (desk_call.Ready ∷ []) (desk_call.Reading ∷ (fills_for drawn ++ desk_call.Note ∷ [])) desk.calls desk_ready.calls desk_noted.calls h.ready.calls read

  called_tied : Tied desk desk_noted dir dir_read (made_exchange ∷ [])
  called_tied = record {
    asked = (asks, tt);
    receipts = λ before told. noted before (ap (λ d. d.receipts) h.drawn_kept ∙ ap (λ d. d.receipts) h.read_kept ∙ ap (λ d. d.receipts) h.ready.kept ∙ told);
    draws = λ bytes told.
        let given = h.drawn_told bytes (ap (λ d. d.random) h.read_kept ∙ ap (λ d. d.random) h.ready.kept ∙ told) in
        (given.0, given.1 ∙ ap (λ l. l ++ given.0) (sym (append-nil (bytes_in drawn))), ap (λ d. d.random) h.noted_kept ∙ given.2);
    readings = λ given told.
        let came = h.read_told given (ap (λ d. d.readings) h.ready.kept ∙ told) in
        (later_readings given, (came.0, refl), ap (λ d. d.readings) h.noted_kept ∙ ap (λ d. d.readings) h.drawn_kept ∙ came.1);
    called = calls_in made_exchange;
    in_turn = (0, [], sym (append-nil (calls_in made_exchange)), (0, refl));
    calls = calls_made;
    failed_draws =
        subst (λ n. Rises (0 + (if is_failed_draw drawn then 1 else 0)) n desk_noted.fill_faults) (ap (λ d. d.fill_faults) h.read_kept ∙ ap (λ d. d.fill_faults) h.ready.kept)
        (subst (λ n. Rises (0 + (if is_failed_draw drawn then 1 else 0)) desk_read.fill_faults n) (sym (ap (λ d. d.fill_faults) h.noted_kept))
        (rises_once (is_failed_draw drawn) desk_read.fill_faults desk_drawn.fill_faults h.drawn_faults));
    failed_folders =
        rises_once failed dir.faults dir_read.faults (subst (λ b. Rises (if b then 1 else 0) dir.faults dir_read.faults) (sym h.failed_is) h.folder_faults);
    folder = λ files told. (h.folder files told, tt);
    files = h.files;
  }

  pub called_exchanges : (told : Replied F) → told ≡ told_by said.kept said.reply → Exchanges p q desk desk_noted dir dir_read number request told
  called_exchanges told is = record {
    exchanges = made_exchange ∷ [];
    works = record { moves = called_moves p q (call_for request command reading drawn read) said called_for request number drawn failed; tied = called_tied };
    are = (refl, refl, refl);
    says =
        subst (λ t. Says q.seen (made_exchange ∷ []) t) (sym is)
        (called_says p q (call_for request command reading drawn read) said called_for request number drawn failed said.kept refl);
  }

-- a call fits

draw_fits : (draws : Bool) (drawn : Drawn) → IsDrawOf draws drawn → IsDrawFor draws drawn
draw_fits true drawn h = h
draw_fits false drawn h = tt

folder_fits : (loads : Bool) (read : FolderRead) → IsReadFor loads read → IsFolderFor loads read
folder_fits true read h = h
folder_fits false read h = tt

pub call_fits : (request : Request) (command : Command) (draws loads : Bool) (reading : ℕ) (drawn : Drawn) (read : FolderRead) (call : Call) → HasInputs request command draws loads drawn read
    → call ≡ call_for request command reading drawn read → Fit call
call_fits request command draws loads reading drawn read call inputs is = subst Fit (sym is) (record {
  draw = subst (λ b. IsDrawFor b drawn) inputs.draws_is (draw_fits draws drawn inputs.drawn_is);
  folder = subst (λ b. IsFolderFor b read) inputs.loads_is (folder_fits loads read inputs.read_is);
  fields = commands_in_range request command inputs.is;
})

-- no exchange was made: there was no memory
pub none_made : {F Link : Type 0} (p : Passed) (desk desk_after : DeskState Link) (dir dir_after : DirState) (number : RequestNumber) (request : Request)
    → IsReadied desk desk_after → dir.faults ≤ dir_after.faults → dir_after.files ≡ dir.files
    → Exchanges {F = F} p p desk desk_after dir dir_after number request replied.Memory
none_made p desk desk_after dir dir_after number request ready faults files = record {
  exchanges = [];
  works = record {
    moves = moves_none p;
    tied = record {
      asked = tt;
      receipts = λ before told. ap (λ d. d.receipts) ready.kept ∙ told ∙ ap Some (sym (append-nil before));
      draws = λ bytes told. (bytes, refl, ap (λ d. d.random) ready.kept ∙ told);
      readings = λ given told. (given, refl, ap (λ d. d.readings) ready.kept ∙ told);
      called = desk_call.Ready ∷ [];
      in_turn = (1, refl);
      calls = ready.calls;
      failed_draws = subst (λ n. Rises 0 desk.fill_faults n) (sym (ap (λ d. d.fill_faults) ready.kept)) (rises_none desk.fill_faults);
      failed_folders = record { kept = faults; rose = omega (arith, faults) };
      folder = λ told_files told. tt;
      files = files;
    };
  };
  are = tt;
  says = tt;
}

-- a request was refused before any call

refused_asks : (routed : Routed) (request : Request) (why : Cause) (receipt : Receipt) → Refuses routed why → IsPlain receipt → Asks routed request (refused why) receipt
refused_asks (routed.Command what) request why receipt is plain = absurd is
refused_asks (routed.Refused fault) request why receipt is plain = (is, plain)
refused_asks routed.NoRoute request why receipt is plain = (is, plain)
refused_asks (routed.NoMethod methods) request why receipt is plain = (is, plain)
refused_asks routed.Memory request why receipt is plain = absurd is

pub refused_exchanges : {F Link : Type 0} (p : Passed) (desk desk_ready desk_noted : DeskState Link) (dir : DirState) (number : RequestNumber) (request : Request) (why : Cause) (changes moment : ℕ)
    → Refuses (command_of request) why → IsSound p.seen → changes ≡ length p.seen.changes → moment ≡ p.seen.high
    → IsReadied desk desk_ready → Appends (receipt_of number changes moment Unused false false ∷ []) desk_ready.receipts desk_noted.receipts
    → desk_noted ≡ record desk_ready { receipts = desk_noted.receipts; receipt_room = desk_noted.receipt_room; calls = desk_noted.calls }
    → Makes (desk_call.Note ∷ []) desk_ready.calls desk_noted.calls
    → Exchanges {F = F} p p desk desk_noted dir dir number request (replied.Reply (reply.Refused why))
refused_exchanges p desk desk_ready desk_noted dir number request why changes moment is sound count last ready appended kept made_calls =
    let receipt : Receipt = receipt_of number changes moment Unused false false in
    let x : Exchange = record { request = request; asked = refused why; receipt = receipt } in
    let whole : cut_at p.seen receipt ≡ bare p.seen
    = ap (λ n. bare (cut p.seen n moment)) count ∙ ap (λ m. bare (cut p.seen (length p.seen.changes) m)) last ∙ ap bare (event_is_cut_off p.seen p.seen.high None sound) in
    record {
      exchanges = x ∷ [];
      works = record {
        moves = record {
          turn = refl;
          later = reflexive p.seen;
          in_order = (
            whole,
            record {
              within = omega (arith, count);
              lawful = subst (λ m. AreBy m (take changes p.seen.changes)) (sym last) (taken_by p.seen.high changes p.seen.changes sound.moments);
              late = tt;
            },
            whole,
          );
          own = sym (ap (λ l. p.own ++ l) (made_one p.seen x) ∙ append-nil p.own);
          top = inl refl;
          weight = refl;
          alone = λ all. ((count, last), tt);
        };
        tied = record {
          asked = (refused_asks (command_of request) request why receipt is (record { draw = refl; folder = refl; memory = refl }), tt);
          receipts = λ before told. appended before (ap (λ d. d.receipts) ready.kept ∙ told);
          draws = λ bytes told. (bytes, refl, ap (λ d. d.random) kept ∙ ap (λ d. d.random) ready.kept ∙ told);
          readings = λ given told. (given, (tt, refl), ap (λ d. d.readings) kept ∙ ap (λ d. d.readings) ready.kept ∙ told);
          called = calls_in x;
          in_turn = (0, [], sym (append-nil (calls_in x)), (0, refl));
          calls = makes_both (desk_call.Ready ∷ []) (desk_call.Note ∷ []) desk.calls desk_ready.calls desk_noted.calls ready.calls made_calls;
          failed_draws = subst (λ n. Rises 0 desk.fill_faults n) (sym (ap (λ d. d.fill_faults) kept ∙ ap (λ d. d.fill_faults) ready.kept)) (rises_none desk.fill_faults);
          failed_folders = rises_none dir.faults;
          folder = λ files told. (tt, tt);
          files = refl;
        };
      };
      are = (refl, refl, refl);
      says = (x, refl, record { decided = refl; kept = tt }, refl, tt);
    }
