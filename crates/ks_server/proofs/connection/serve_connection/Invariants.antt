use Rattle.std.proofs.Common.{◌≡◌, ◌-◌, ◌<◌, None}
use Rattle.ks_server.specs.Ties.{KeepsLinks}
use Rattle.ks_server.specs.steps.Progress.{Progress}
use Rattle.ks_server.proofs.connection.serve_connection.Given as goal

abbrev pub invariant-requests : goal.invariant-requests
invariant-requests g l = record {
  progress : Progress l.fn.pass l.pass (g.P.Desk.desk l.fn.desk) (g.P.Desk.desk l.desk) (g.D.KeyDir.dir l.fn.dir) (g.D.KeyDir.dir l.dir) l.connection l.count
      (g.L.Stream.stream l.fn.link) (g.L.Stream.stream l.link) l.reader.held;
  links : KeepsLinks (g.P.Desk.desk l.fn.desk) (g.P.Desk.desk l.desk);
  own : l.pass.turn ≡ l.server.turn.now;
  url : l.server.url.now ≡ l.pass.seen.opening.settings.url;
  going_on : l.reader.over ≡ None;
  few : l.count < 1000000;
}

abbrev pub decreases-requests : goal.decreases-requests
decreases-requests g l = 1000000 - l.count
