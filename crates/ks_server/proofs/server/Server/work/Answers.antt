use Rattle.std.proofs.Common.{refl, ap, ◌∙◌}
use Rattle.ks_server.proofs.ShiftLemmas.{accept_failed, accepted_by, begins, enough, given_back_by, goes_on, keeper_fails, no_link, without_fault}
use Rattle.ks_server.proofs.server.Server.work.Goals as goal

pub links-init : goal.links-init
links-init g c = record { working = begins _ _ _ _ _; own = c.requires.own; url = c.requires.url }

pub returns-then-is_enough : goal.returns-then-is_enough
returns-then-is_enough g c =
    let yes = c.is_enough.ensures.yes c.if-is_enough.true in
    rw (c.new.ensures.pass, c.new.ensures.failed, c.new.ensures.keeper) (enough {place = record { desk = g.P.Desk.desk c.args.desk.now; dir = g.D.KeyDir.dir c.args.dir.now }} c.links.invariant.working yes.0 yes.1 c.ranges.connections.fits)

pub returns-in-Ok-None : goal.returns-in-Ok-None
returns-in-Ok-None g c =
    rw (c.new-in-Ok-None.ensures.pass, c.new-in-Ok-None.ensures.failed, c.new-in-Ok-None.ensures.keeper)
    (no_link {place = record { desk = g.P.Desk.desk c.args.desk.now; dir = g.D.KeyDir.dir c.args.dir.now }} c.links.invariant.working (rw c.in-Ok-None.field-0-is at c.in-Ok-None.ensures.told) (accepted_by _ _ c.in-Ok-None.ensures.kept) c.in-Ok-None.ensures.faults.kept)

pub returns-in-Err : goal.returns-in-Err
returns-in-Err g c =
    rw (c.new-in-Err.ensures.pass, c.new-in-Err.ensures.failed, c.new-in-Err.ensures.keeper)
    (accept_failed {place = record { desk = g.P.Desk.desk c.args.desk.now; dir = g.D.KeyDir.dir c.args.dir.now }} c.links.invariant.working c.in-Err.ensures.told (accepted_by _ _ c.in-Err.ensures.kept) _ refl c.in-Err.ensures.faults)

pub serve_connection-next-requires-clause-own : goal.serve_connection-next-requires-clause-own
serve_connection-next-requires-clause-own g c = c.links.invariant.own

pub serve_connection-next-requires-clause-url : goal.serve_connection-next-requires-clause-url
serve_connection-next-requires-clause-url g c = c.links.invariant.url

pub returns-in-KeeperFault : goal.returns-in-KeeperFault
returns-in-KeeperFault g c =
    rw (c.new-in-KeeperFault.ensures.pass, c.new-in-KeeperFault.ensures.failed, c.new-in-KeeperFault.ensures.keeper)
    (keeper_fails {place = record { desk = g.P.Desk.desk c.args.desk.now; dir = g.D.KeyDir.dir c.args.dir.now }} c.links.invariant.working (c.is_enough.ensures.no c.if-is_enough.false) c.ranges.connections.fits
    (rw c.in-Ok-Some.field-0-is at c.in-Ok-Some.ensures.told) (accepted_by _ _ c.in-Ok-Some.ensures.kept) c.in-Ok-Some.ensures.faults.kept
    c.serve_connection-next.ensures.links c.serve_connection-next.ensures.serves
    c.give_back.ensures.told (given_back_by _ _ c.give_back.ensures.kept) c.in-KeeperFault.fault c.in-KeeperFault.is)

pub links-preserved : goal.links-preserved
links-preserved g c =
    let i = c.links.invariant in
    let moves = c.serve_connection-next.ensures.serves.works.moves in
    record {
      working =
          goes_on {place = record { desk = g.P.Desk.desk c.args.desk.now; dir = g.D.KeyDir.dir c.args.dir.now }} i.working (c.is_enough.ensures.no c.if-is_enough.false) c.ranges.connections.fits
          (rw c.in-Ok-Some.field-0-is at c.in-Ok-Some.ensures.told) (accepted_by _ _ c.in-Ok-Some.ensures.kept) c.in-Ok-Some.ensures.faults.kept
          c.serve_connection-next.ensures.links c.serve_connection-next.ensures.serves
          c.give_back.ensures.told (given_back_by _ _ c.give_back.ensures.kept) (without_fault _ c.in_default.not-KeeperFault);
      own = moves.turn ∙ i.own;
      url = i.url ∙ ap (λ o. o.settings.url) moves.later.opening;
    }
