-- A connection moves on and ends.
use Rattle.std.proofs.Common.{◌≡◌, ℕ, ◌+◌, ◌<◌, ◌≤◌, true, false, List, [], ◌∷◌, ◌++◌, length, Some, Result, Ok, Err, refl, sym, ap, subst, ◌∙◌, arith}
use Rattle.ks_http.specs.declared.cause.HttpCause.{HttpCause}
use Rattle.ks_http.specs.declared.ending.Ending.TheVariants as ending
use Rattle.ks_http.specs.declared.request.Request.{Request}
use Rattle.ks_http.specs.Next.{Ends, IsFirst, IsUnfinished, ReadsNeeded, asked as asked_close, ended as ended_close, last as last_close}
use Rattle.ks_machine.specs.Fronts.{Front}
use Rattle.ks_outside.specs.Counts.{Counts}
use Rattle.ks_outside.specs.Desks.{DeskState}
use Rattle.ks_outside.specs.Files.{DirState}
use Rattle.ks_outside.specs.Streams.{OnlyReads, OnlyWrites, StreamState}
use Rattle.ks_server.proofs.AnswerLemmas.{one_of}
use Rattle.ks_server.proofs.EndLemmas.{asks_end, ends, fills_up, gives_up, moves_on, reads_short, refuses, rests, starts, stops}
use Rattle.ks_server.proofs.ProgressLemmas.{begun, exits, goes_on}
use Rattle.ks_server.proofs.WorkLemmas.{works_none}
use Rattle.ks_server.specs.declared.closed.Closed.{Closed}
use Rattle.ks_server.specs.declared.closed.Closed.TheVariants as closed
use Rattle.ks_server.specs.declared.number.RequestNumber.{RequestNumber}
use Rattle.ks_server.specs.Exchanges.{Exchange}
use Rattle.ks_server.specs.Sessions.{IsTold, ReadShort, WroteAll, responses}
use Rattle.ks_server.specs.Ties.{AreNumbered}
use Rattle.ks_server.specs.Work.{ServesLink}
use Rattle.ks_server.specs.steps.Answers.{Answers, AreOf, GivesUp, IsAnswered, IsUnwritten, RefusesBytes, WritesAnswer}
use Rattle.ks_server.specs.steps.Progress.{Progress, StandsBehind}
use Rattle.ks_turn.specs.Passes.{Passed}

numbers_of : (number : RequestNumber) (request : Request) (xs : List Exchange) → AreOf number request xs → AreNumbered number.connection number.request xs
numbers_of number request [] are = tt
numbers_of number request (x ∷ []) are = (are.0, are.1, tt)
numbers_of number request (x ∷ y ∷ xs) are = absurd are

pub unrested : {F : Type 0} (why : Closed F) → IsUnwritten why → why ≡ closed.Rests → ⊥
unrested why is same = subst IsUnwritten same is

unread : {F : Type 0} (why : Closed F) → IsUnwritten why → why ≡ closed.ReadFault → ⊥
unread why is same = subst IsUnwritten same is

not_read : {F : Type 0} (journal : Front) (xs : List Exchange) (why : Closed F) → IsAnswered journal xs (Err why) → why ≡ closed.ReadFault → ⊥
not_read journal xs why is same = subst (λ w. IsAnswered journal xs (Err w)) same is

pub not_rested : {F : Type 0} (journal : Front) (xs : List Exchange) (result : Result (Unit {0}) (Closed F)) (why : Closed F) → IsAnswered journal xs result → result ≡ Err why → why ≡ closed.Rests → ⊥
not_rested journal xs result why is ended same = subst (λ w. IsAnswered journal xs (Err w)) same (subst (λ r. IsAnswered journal xs r) ended is)

abbrev HasReadFault : {F : Type 0} → Closed F → Type 0
HasReadFault why = why ≡ closed.ReadFault

abbrev HasWriteFault : {F : Type 0} → Closed F → Type 0
HasWriteFault why = why ≡ closed.WriteFault

asked_read : (F : Type 0) → HasReadFault {F = F} closed.Asked → ⊥
asked_read F is = cc is

asked_write : (F : Type 0) → HasWriteFault {F = F} closed.Asked → ⊥
asked_write F is = cc is

last_read : (F : Type 0) → HasReadFault {F = F} closed.Last → ⊥
last_read F is = cc is

last_write : (F : Type 0) → HasWriteFault {F = F} closed.Last → ⊥
last_write F is = cc is

end_read : (F : Type 0) → HasReadFault {F = F} closed.End → ⊥
end_read F is = cc is

end_write : (F : Type 0) → HasWriteFault {F = F} closed.End → ⊥
end_write F is = cc is

rests_read : (F : Type 0) → HasReadFault {F = F} closed.Rests → ⊥
rests_read F is = cc is

rests_write : (F : Type 0) → HasWriteFault {F = F} closed.Rests → ⊥
rests_write F is = cc is

read_write : (F : Type 0) → HasWriteFault {F = F} closed.ReadFault → ⊥
read_write F is = cc is

-- a count that stands
stands : (failed : Type 0) (a b : ℕ) → b ≡ a → (failed → ⊥) → Counts failed a b
stands failed a b same never = record { kept = omega (arith, same); rose = λ is. absurd (never is) }

-- a request came, and was answered
module _ {F Link : Type 0} {old now new : Passed} {desk desk_now desk_new : DeskState Link} {dir dir_now dir_new : DirState} {connection count : ℕ} {link link_now link_read link_new : StreamState} {held : List ℕ} {request : Request}
    (h : Progress old now desk desk_now dir dir_now connection count link link_now held)
    {failed : Type 0} (reads : OnlyReads failed link_now link_read)
    {result : Result (Unit {0}) (Closed F)}
    (a : Answers now new desk_now desk_new dir_now dir_new (record { connection = connection; request = count }) request link_read link_new result) where
  -- from what was held and left comes the request, and then this is held
  abbrev Came : List ℕ → Type 0
  Came held' = (left : List ℕ) → link_now.left ≡ Some left → (rest : List ℕ) × (link_read.left ≡ Some rest) × IsFirst (held ++ left) request (held' ++ rest)

  -- and no more was read than had to be
  abbrev Needed : Type 0
  Needed = (left : List ℕ) → link_now.left ≡ Some left → ReadsNeeded IsUnfinished (held ++ left) left link_read.left

  abbrev number : RequestNumber
  number = record { connection = connection; request = count }

  names : link_new.names ≡ link_now.names
  names = a.writes.names ∙ reads.names

  read_more : link_now.read_faults ≤ link_new.read_faults
  read_more = let same = a.writes.reads in let more = reads.reads.kept in omega (arith, same, more)

  written_more : link_now.write_faults ≤ link_new.write_faults
  written_more = let same = reads.writes in let more = a.writes.writes.kept in omega (arith, same, more)

  read_counts : (fault : Type 0) → (fault → ⊥) → Counts fault link_now.read_faults link_new.read_faults
  read_counts fault never = record { kept = read_more; rose = λ is. absurd (never is) }

  write_counts : (fault : Type 0) → (fault → result ≡ Err closed.WriteFault) → Counts fault link_now.write_faults link_new.write_faults
  write_counts fault is_fault = record {
    kept = written_more;
    rose = λ is. let same = reads.writes in let rose = a.writes.writes.rose (is_fault is) in omega (arith, same, rose);
  }

  numbered : AreNumbered connection count a.exchanges
  numbered = numbers_of number request a.exchanges a.are

  -- its response was not written whole
  pub stopped : (held' : List ℕ) → Came held' → (why : Closed F) → result ≡ Err why → ServesLink old new desk desk_new dir dir_new connection link link_new why
  stopped held' came why ended =
      exits h a.exchanges a.works why numbered
      (read_counts (why ≡ closed.ReadFault) (λ is. not_read new.seen a.exchanges why (subst (λ r. IsAnswered new.seen a.exchanges r) ended a.is) is))
      (write_counts (why ≡ closed.WriteFault) (λ is. ended ∙ ap (λ w. Err w) is))
      names
      (λ text before behind.
      let next = came behind.rest behind.left_is in
      stops behind why count number request (held' ++ next.0) h.count_is next.2 link_new.left link_new.written a.exchanges a.are
      (subst (λ r. WritesAnswer new.seen count (before ++ responses new.seen 0 h.exchanges) link_new.written a.exchanges r) ended
      (a.told (before ++ responses new.seen 0 h.exchanges) (reads.written ∙ behind.written_is))))

  -- it was written
  module _ (went : result ≡ Ok tt) where
    one : (x : Exchange) × (a.exchanges ≡ x ∷ []) × IsTold new.seen x
    one = subst (λ r. IsAnswered new.seen a.exchanges r) went a.is

    wrote : (before : List ℕ) → link_now.written ≡ Some before → WritesAnswer {F = F} new.seen count before link_new.written a.exchanges (Ok tt)
    wrote before is = subst (λ r. WritesAnswer new.seen count before link_new.written a.exchanges r) went (a.told before (reads.written ∙ is))

    -- and the connection ends with it
    pub asked : (held' : List ℕ) → Came held' → Needed → request.close ≡ true → ServesLink {F = F} old new desk desk_new dir dir_new connection link link_new closed.Asked
    asked held' came needed closes =
        exits h a.exchanges a.works closed.Asked numbered (read_counts (HasReadFault {F = F} closed.Asked) (asked_read F)) (write_counts (HasWriteFault {F = F} closed.Asked) (λ is. absurd (asked_write F is))) names
        (λ text before behind.
        let next = came behind.rest behind.left_is in
        let w = wrote (before ++ responses new.seen 0 h.exchanges) behind.written_is in
        let same = one_of number request a.exchanges w.0 w.1 a.are in
        subst (λ over. WroteAll new.seen text before link_new.left link_new.written (h.exchanges ++ over) asked_close) (sym w.1)
        (asks_end behind count w.0 held' next.0 link_new.left link_new.written h.count_is (a.writes.left ∙ next.1) (subst (λ r. IsFirst (held ++ behind.rest) r (held' ++ next.0)) (sym same) next.2)
        (subst (λ left. ReadsNeeded IsUnfinished (held ++ behind.rest) behind.rest left) (sym a.writes.left) (needed behind.rest behind.left_is))
        (ap (λ (r : Request). r.close) same ∙ closes) w.2 w.3))

    pub filled : (held' : List ℕ) → Came held' → Needed → request.close ≡ false → count + 1 ≡ 1000000 → ServesLink {F = F} old new desk desk_new dir dir_new connection link link_new closed.Last
    filled held' came needed going full =
        exits h a.exchanges a.works closed.Last numbered (read_counts (HasReadFault {F = F} closed.Last) (last_read F)) (write_counts (HasWriteFault {F = F} closed.Last) (λ is. absurd (last_write F is))) names
        (λ text before behind.
        let next = came behind.rest behind.left_is in
        let w = wrote (before ++ responses new.seen 0 h.exchanges) behind.written_is in
        let same = one_of number request a.exchanges w.0 w.1 a.are in
        subst (λ over. WroteAll new.seen text before link_new.left link_new.written (h.exchanges ++ over) last_close) (sym w.1)
        (fills_up behind count w.0 held' next.0 link_new.left link_new.written h.count_is (a.writes.left ∙ next.1) (subst (λ r. IsFirst (held ++ behind.rest) r (held' ++ next.0)) (sym same) next.2)
        (subst (λ left. ReadsNeeded IsUnfinished (held ++ behind.rest) behind.rest left) (sym a.writes.left) (needed behind.rest behind.left_is))
        (ap (λ (r : Request). r.close) same ∙ going) full w.2 w.3))

    -- and the connection goes on
    pub moved : (held' : List ℕ) → Came held' → Needed → request.close ≡ false → count + 1 < 1000000 → Progress old new desk desk_new dir dir_new connection (count + 1) link link_new held'
    moved held' came needed going few =
        goes_on h a.exchanges a.works held' numbered (ap length one.1) read_more written_more names
        (λ text before behind.
        let next = came behind.rest behind.left_is in
        let w = wrote (before ++ responses new.seen 0 h.exchanges) behind.written_is in
        let same = one_of number request a.exchanges w.0 w.1 a.are in
        subst (λ over. StandsBehind new.seen text before held' link_new.left link_new.written (h.exchanges ++ over)) (sym w.1)
        (moves_on behind count w.0 held' next.0 link_new.left link_new.written h.count_is (a.writes.left ∙ next.1)
        (subst (λ r. IsFirst (held ++ behind.rest) r (held' ++ next.0)) (sym same) next.2)
        (subst (λ left. ReadsNeeded IsUnfinished (held ++ behind.rest) behind.rest left) (sym a.writes.left) (needed behind.rest behind.left_is)) (ap (λ (r : Request). r.close) same ∙ going) few w.2 w.3))

-- no more was read than had to be
abbrev NeededHere : List ℕ → StreamState → StreamState → Type 0
NeededHere held link link_read = (left : List ℕ) → link.left ≡ Some left → ReadsNeeded IsUnfinished (held ++ left) left link_read.left

-- no request came
module _ {F Link : Type 0} {old now : Passed} {desk desk_now : DeskState Link} {dir dir_now : DirState} {connection count : ℕ} {link link_now link_read : StreamState} {held : List ℕ}
    (h : Progress old now desk desk_now dir dir_now connection count link link_now held)
    {failed : Type 0} (reads : OnlyReads failed link_now link_read) where
  -- the input ended
  pub ended : ((left : List ℕ) → link_now.left ≡ Some left → Ends (held ++ left) link_read.left ending.End) → NeededHere held link_now link_read → ServesLink {F = F} old now desk desk_now dir dir_now connection link link_read closed.End
  ended ends_so needed =
      exits h [] (works_none now desk_now dir_now) closed.End tt
      (record { kept = reads.reads.kept; rose = λ is. absurd (end_read F is) })
      (stands (HasWriteFault {F = F} closed.End) link_now.write_faults link_read.write_faults reads.writes (end_write F))
      reads.names
      (λ text before behind.
      let e = ends_so behind.rest behind.left_is in
      subst (λ w. WroteAll now.seen text before link_read.left w (h.exchanges ++ []) ended_close) (sym reads.written)
      (ends behind count link_read.left h.count_is e.0 e.1 (needed behind.rest behind.left_is)))

  -- the input could not be read
  pub unreadable : ((left : List ℕ) → link_now.left ≡ Some left → Ends (held ++ left) link_read.left ending.ReadFault) → failed
      → ServesLink {F = F} old now desk desk_now dir dir_now connection link link_read closed.ReadFault
  unreadable begun_so fault =
      exits h [] (works_none now desk_now dir_now) closed.ReadFault tt
      (record { kept = reads.reads.kept; rose = λ is. reads.reads.rose fault })
      (stands (HasWriteFault {F = F} closed.ReadFault) link_now.write_faults link_read.write_faults reads.writes (read_write F))
      reads.names
      (λ text before behind.
      subst (λ w. ReadShort now.seen text before link_read.left w (h.exchanges ++ [])) (sym reads.written)
      (reads_short behind link_read.left (begun_so behind.rest behind.left_is)))

  -- there was no memory to read
  pub forgotten : {link_new : StreamState} (why : Closed F) → OnlyWrites (why ≡ closed.WriteFault) link_read link_new → IsUnwritten why
      → ((before : List ℕ) → link_read.written ≡ Some before → GivesUp before link_new.written why) → ServesLink old now desk desk_now dir dir_now connection link link_new why
  forgotten {link_new} why writes others told =
      exits h [] (works_none now desk_now dir_now) why tt
      (record { kept = (let same = writes.reads in let more = reads.reads.kept in omega (arith, same, more)); rose = λ is. absurd (unread why others is) })
      (record { kept = (let same = reads.writes in let more = writes.writes.kept in omega (arith, same, more)); rose = λ is. let same = reads.writes in let rose = writes.writes.rose is in omega (arith, same, rose) })
      (writes.names ∙ reads.names)
      (λ text before behind. gives_up behind why link_new.left link_new.written [] tt (told (before ++ responses now.seen 0 h.exchanges) (reads.written ∙ behind.written_is)))

  -- bytes came that are no request
  pub refused : {link_new : StreamState} (why : Closed F) (cause : HttpCause) → OnlyWrites (why ≡ closed.WriteFault) link_read link_new → (why ≡ closed.ReadFault → ⊥)
      → ((before : List ℕ) → link_read.written ≡ Some before → RefusesBytes cause before link_new.written why)
      → ((left : List ℕ) → link_now.left ≡ Some left → Ends (held ++ left) link_read.left (ending.Bad cause)) → NeededHere held link_now link_read → ServesLink old now desk desk_now dir dir_now connection link link_new why
  refused {link_new} why cause writes others told bad_so needed =
      exits h [] (works_none now desk_now dir_now) why tt
      (record { kept = (let same = writes.reads in let more = reads.reads.kept in omega (arith, same, more)); rose = λ is. absurd (others is) })
      (record { kept = (let same = reads.writes in let more = writes.writes.kept in omega (arith, same, more)); rose = λ is. let same = reads.writes in let rose = writes.writes.rose is in omega (arith, same, rose) })
      (writes.names ∙ reads.names)
      (λ text before behind.
      refuses behind why count cause link_new.left link_new.written h.count_is (subst (λ left. Ends (held ++ behind.rest) left (ending.Bad cause)) (sym writes.left) (bad_so behind.rest behind.left_is))
      (subst (λ left. ReadsNeeded IsUnfinished (held ++ behind.rest) behind.rest left) (sym writes.left) (needed behind.rest behind.left_is))
      (told (before ++ responses now.seen 0 h.exchanges) (reads.written ∙ behind.written_is)))

-- whether the link rests was asked, and it stands as before
pub after_asking : {Link : Type 0} {old now : Passed} {desk desk_now : DeskState Link} {dir dir_now : DirState} {connection count : ℕ} {link link_now link_new : StreamState} {held : List ℕ}
    → Progress old now desk desk_now dir dir_now connection count link link_now held → link_new ≡ link_now → Progress old now desk desk_now dir dir_now connection count link link_new held
after_asking {Link} {old} {now} {desk} {desk_now} {dir} {dir_now} {connection} {count} {link} {link_now} {link_new} {held} h same =
    subst (λ l. Progress old now desk desk_now dir dir_now connection count link l held) (sym same) h

-- and it rests
pub rested : {F Link : Type 0} {old now : Passed} {desk desk_now : DeskState Link} {dir dir_now : DirState} {connection count : ℕ} {link link_now : StreamState} {held : List ℕ}
    → Progress old now desk desk_now dir dir_now connection count link link_now held → held ≡ [] → 0 < count
    → ServesLink {F = F} old now desk desk_now dir dir_now connection link link_now closed.Rests
rested {F} {Link} {old} {now} {desk} {desk_now} {dir} {dir_now} {connection} {count} {link} {link_now} {held} h nothing some =
    exits h [] (works_none now desk_now dir_now) closed.Rests tt
    (stands (HasReadFault {F = F} closed.Rests) link_now.read_faults link_now.read_faults refl (rests_read F))
    (stands (HasWriteFault {F = F} closed.Rests) link_now.write_faults link_now.write_faults refl (rests_write F))
    refl
    (λ text before behind. rests behind nothing (let count_is = h.count_is in omega (arith, count_is, some)))

-- the connection begins
pub started : {Link : Type 0} (p : Passed) (desk : DeskState Link) (dir : DirState) (connection : ℕ) (link : StreamState) → Progress p p desk desk dir dir connection 0 link link []
started p desk dir connection link = begun p desk dir connection link [] (λ text before left_is written_is. starts p.seen text before link.left link.written left_is written_is)

-- nothing was read
pub unread_yet : (link : StreamState) → OnlyReads ⊥ link link
unread_yet link = record { reads = record { kept = omega arith; rose = λ is. absurd is }; written = refl; writes = refl; names = refl }
