-- A connection moves on from request to request by stretches of work.
use Rattle.std.proofs.Common.{◌≡◌, ℕ, ◌+◌, ◌≤◌, List, [], ◌++◌, length, Option, Some, refl, sym, ap, subst, ◌∙◌, arith, length-append}
use Rattle.ks_machine.specs.Fronts.{Front, ◌⊑◌}
use Rattle.ks_outside.specs.Counts.{Counts}
use Rattle.ks_outside.specs.Desks.{DeskState}
use Rattle.ks_outside.specs.Files.{DirState}
use Rattle.ks_outside.specs.Streams.{StreamState}
use Rattle.ks_server.proofs.OrderLemmas.{AreWithin, within_of}
use Rattle.ks_server.proofs.SessionLemmas.{responses_kept, told_kept}
use Rattle.ks_server.proofs.TieLemmas.{numbered_both}
use Rattle.ks_server.proofs.WorkLemmas.{works_both, works_none}
use Rattle.ks_server.specs.declared.closed.Closed.{Closed}
use Rattle.ks_server.specs.declared.closed.Closed.TheVariants as closed
use Rattle.ks_server.specs.Exchanges.{Exchange, bare}
use Rattle.ks_server.specs.Sessions.{EndsSession}
use Rattle.ks_server.specs.Ties.{AreNumbered}
use Rattle.ks_server.specs.Work.{ServesLink, Works}
use Rattle.ks_server.specs.steps.Progress.{Progress, StandsBehind}
use Rattle.ks_turn.specs.Passes.{Passed}

-- what was told reads the same off each later journal
stands_kept : (f g : Front) → f ⊑ g → (input before held : List ℕ) (left written : Option (List ℕ)) (xs : List Exchange) → AreWithin f xs →
    StandsBehind f input before held left written xs → StandsBehind g input before held left written xs
stands_kept f g on input before held left written xs within h = record {
  rest = h.rest;
  left_is = h.left_is;
  are = h.are;
  short = h.short;
  told = told_kept f g on xs within h.told;
  written_is = h.written_is ∙ ap (λ l. Some (before ++ l)) (sym (responses_kept f g on 0 xs within));
}

pub begun : {Link : Type 0} (p : Passed) (desk : DeskState Link) (dir : DirState) (connection : ℕ) (link : StreamState) (held : List ℕ)
    → ((text before : List ℕ) → link.left ≡ Some text → link.written ≡ Some before → StandsBehind p.seen text before held link.left link.written [])
    → Progress p p desk desk dir dir connection 0 link link held
begun p desk dir connection link held told = record {
  exchanges = [];
  works = works_none p desk dir;
  numbered = tt;
  count_is = refl;
  told = told;
  reads = omega arith;
  writes = omega arith;
  names = refl;
}

module _ {Link : Type 0} {old now new : Passed} {desk desk_now desk_new : DeskState Link} {dir dir_now dir_new : DirState} {connection count : ℕ} {link link_now : StreamState} {held : List ℕ}
    (h : Progress old now desk desk_now dir dir_now connection count link link_now held) (over : List Exchange) (works : Works now new desk_now desk_new dir_now dir_new over) where
  -- what was told so far, at the new journal
  later : (text before : List ℕ) → link.left ≡ Some text → link.written ≡ Some before → StandsBehind new.seen text before held link_now.left link_now.written h.exchanges
  later text before left_is written_is =
      let moves = h.works.moves in
      stands_kept now.seen new.seen works.moves.later text before held link_now.left link_now.written h.exchanges
      (within_of now.seen (bare old.seen) (bare now.seen) h.exchanges moves.in_order)
      (h.told text before left_is written_is)

  numbers : AreNumbered connection count over → AreNumbered connection 0 (h.exchanges ++ over)
  numbers numbered =
      let count_is = h.count_is in
      numbered_both connection 0 h.exchanges over h.numbered (subst (λ n. AreNumbered connection n over) (omega (arith, count_is)) numbered)

  -- and it ends
  pub exits : {F : Type 0} {link_new : StreamState} (why : Closed F) → AreNumbered connection count over
      → Counts (why ≡ closed.ReadFault) link_now.read_faults link_new.read_faults
      → Counts (why ≡ closed.WriteFault) link_now.write_faults link_new.write_faults
      → link_new.names ≡ link_now.names
      → ((text before : List ℕ) → StandsBehind new.seen text before held link_now.left link_now.written h.exchanges
      → EndsSession new.seen text before link_new.left link_new.written (h.exchanges ++ over) why)
      → ServesLink old new desk desk_new dir dir_new connection link link_new why
  exits why numbered reads writes names told = record {
    exchanges = h.exchanges ++ over;
    works = works_both h.works works;
    numbered = numbers numbered;
    told = λ text before left_is written_is. told text before (later text before left_is written_is);
    reads = let all = h.reads in record { kept = omega (arith, all, reads.kept); rose = λ is. let rose = reads.rose is in omega (arith, all, rose) };
    writes = let all = h.writes in record { kept = omega (arith, all, writes.kept); rose = λ is. let rose = writes.rose is in omega (arith, all, rose) };
    names = names ∙ h.names;
  }

  -- and it goes on
  pub goes_on : {link_new : StreamState} (held' : List ℕ) → AreNumbered connection count over → length over ≡ 1
      → link_now.read_faults ≤ link_new.read_faults
      → link_now.write_faults ≤ link_new.write_faults
      → link_new.names ≡ link_now.names
      → ((text before : List ℕ) → StandsBehind new.seen text before held link_now.left link_now.written h.exchanges
      → StandsBehind new.seen text before held' link_new.left link_new.written (h.exchanges ++ over))
      → Progress old new desk desk_new dir dir_new connection (count + 1) link link_new held'
  goes_on held' numbered one reads writes names told = record {
    exchanges = h.exchanges ++ over;
    works = works_both h.works works;
    numbered = numbers numbered;
    count_is = length-append h.exchanges over ∙ (let count_is = h.count_is in omega (arith, count_is, one));
    told = λ text before left_is written_is. told text before (later text before left_is written_is);
    reads = let all = h.reads in omega (arith, all, reads);
    writes = let all = h.writes in omega (arith, all, writes);
    names = names ∙ h.names;
  }
