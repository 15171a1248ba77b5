use Rattle.std.proofs.Common.{◌≡◌}
use Rattle.ks_server.specs.steps.Shifts.{Working}
use Rattle.ks_server.proofs.server.Server.work.Given as goal

abbrev pub invariant-links : goal.invariant-links
invariant-links g l = record {
  working : Working g.row.I-Fault.Denot g.P.Link.Stream.stream l.connections l.number l.fn.pass l.pass
      (record { desk = g.P.Desk.desk l.fn.desk; dir = g.D.KeyDir.dir l.fn.dir }) (record { desk = g.P.Desk.desk l.desk; dir = g.D.KeyDir.dir l.dir });
  own : l.pass.turn ≡ l.self.turn.now;
  url : l.self.url.now ≡ l.pass.seen.opening.settings.url;
}
