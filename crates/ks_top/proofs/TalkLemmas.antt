-- A talk, from an opening to the end of its connection.
use Rattle.std.proofs.Common.{◌≡◌, ℕ, inl, List, Option, Some, refl, sym, ap, ◌∙◌, subst}
use Rattle.ks_keep.specs.declared.keeping.KeeperFailed.{KeeperFailed}
use Rattle.ks_keep.specs.Books.{BookedState, StandsBooked}
use Rattle.ks_keeper.specs.Keeper.{Keeping}
use Rattle.ks_machine.specs.Fronts.{Front}
use Rattle.ks_outside.specs.Counts.{Counts}
use Rattle.ks_outside.specs.Desks.{DeskState}
use Rattle.ks_outside.specs.Streams.{StreamState}
use Rattle.ks_server.specs.declared.closed.Closed.{Closed}
use Rattle.ks_server.specs.declared.closed.Closed.TheVariants as closed
use Rattle.ks_server.specs.Exchanges.{Exchange}
use Rattle.ks_server.specs.Sessions.{EndsSession}
use Rattle.ks_server.specs.Ties.{KeepsLinks}
use Rattle.ks_server.specs.Work.{PassMoves}
use Rattle.ks_server.specs.Work as work
use Rattle.ks_commands.specs.declared.fault.Fault.{Fault}
use Rattle.ks_top.specs.Talk.{ServedOne, Talked, ending}
use Rattle.ks_top.specs.World.{World}
use Rattle.ks_top.proofs.ServeLemmas.{high_of, made_once}
use Rattle.ks_turn.specs.Passes.{Ends, Passed, first_pass}

-- the first pass of a turn, by the turn that it is of
pub first_is : (turn : _) (pass : Passed) (front : Front) → pass ≡ first_pass turn front → pass ≡ first_pass pass.turn front
first_is turn pass front is = is ∙ ap (λ t. first_pass t front) (sym (ap (λ (p : Passed). p.turn) is))

-- the connection

-- the link is over these ends
pub record IsLink (link input output : StreamState) : Type 0 where
  pub left : link.left ≡ input.left
  pub written : link.written ≡ output.written
  pub reads : link.read_faults ≡ input.read_faults
  pub writes : link.write_faults ≡ output.write_faults

told_by : {Link Seat K : Type 0} (old new : World Link Seat K) (link link_after : StreamState) (journal : Front) (xs : List Exchange) (why : Closed KeeperFailed)
    → IsLink link old.input old.output → IsLink link_after new.input new.output
    → ((text before : List ℕ) → link.left ≡ Some text → link.written ≡ Some before → EndsSession journal text before link_after.left link_after.written xs why)
    → (text before : List ℕ) → old.input.left ≡ Some text → old.output.written ≡ Some before → EndsSession journal text before new.input.left new.output.written xs why
told_by old new link link_after journal xs why is is_after told text before left written =
    subst (λ r. EndsSession journal text before new.input.left r xs why) is_after.written
    (subst (λ r. EndsSession journal text before r link_after.written xs why) is_after.left
    (told text before (is.left ∙ left) (is.written ∙ written)))

counts_at : (P : Type 0) (a b c d : ℕ) → a ≡ c → b ≡ d → Counts P a b → Counts P c d
counts_at P a b c d first second counts = subst (λ n. Counts P n d) first (subst (Counts P a) second counts)

pub talked : {Link Seat K : Type 0} (old new : World Link Seat K) (first : Front) (opened : DeskState Link) (pass after : Passed) (why : Closed KeeperFailed) (link link_after : StreamState)
    → pass ≡ first_pass pass.turn first
    → (serves : work.ServesLink pass after opened new.desk old.place new.place 0 link link_after why)
    → KeepsLinks opened new.desk → Ends first after
    → IsLink link old.input old.output → IsLink link_after new.input new.output → (why ≡ closed.Rests → ⊥)
    → Talked old new first opened after.seen serves.exchanges why
talked old new first opened pass after why link link_after begins serves links ends is is_after to_end =
    let moves : PassMoves (first_pass pass.turn first) after serves.exchanges = subst (λ p. PassMoves p after serves.exchanges) begins serves.works.moves in
    record {
      numbered = serves.numbered;
      in_order = moves.in_order;
      later = moves.later;
      alone = moves.alone refl;
      made = made_once first after serves.exchanges moves.own ends;
      high = high_of first after serves.exchanges ends moves.top;
      tied = serves.works.tied;
      links = links;
      told = told_by old new link link_after after.seen serves.exchanges why is is_after serves.told;
      to_end = to_end;
      reads = counts_at (why ≡ closed.ReadFault) link.read_faults link_after.read_faults old.input.read_faults new.input.read_faults is.reads is_after.reads serves.reads;
      writes = counts_at (why ≡ closed.WriteFault) link.write_faults link_after.write_faults old.output.write_faults new.output.write_faults is.writes is_after.writes serves.writes;
    }

pub served : {Link Seat K : Type 0} {link link_after : StreamState} (keeping : Keeping K) (old new : World Link Seat K) (first : Front) (opened : DeskState Link) (pass after : Passed) (why : Closed KeeperFailed) (f : Option Fault) (state : BookedState K)
    → pass ≡ first_pass pass.turn first
    → (serves : work.ServesLink pass after opened new.desk old.place new.place 0 link link_after why)
    → KeepsLinks opened new.desk → Ends first after
    → IsLink link old.input old.output → IsLink link_after new.input new.output
    → StandsBooked keeping state after.seen → ending why f
    → new ≡ record old { input = new.input; file = new.file; output = new.output; dir = new.dir; desk = new.desk; place = new.place; keeper = new.keeper }
    → ServedOne keeping old new f first opened state
served {link} {link_after} keeping old new first opened pass after why f state begins serves links ends is is_after stands ended others = inl (record {
  journal = after.seen;
  exchanges = serves.exchanges;
  why = why;
  stands = stands;
  talked = talked old new first opened pass after why link link_after begins serves links ends is is_after (λ rests. subst (λ w. ending w f) rests ended);
  ends = ended;
  others = others;
})
