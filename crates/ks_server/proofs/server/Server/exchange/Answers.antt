use Rattle.std.proofs.Common.{refl, arith}
use Rattle.ks_server.proofs.ExchangeLemmas.{none_made}
use Rattle.ks_server.proofs.server.Server.exchange.Goals as goal

pub returns-in_default-clause-exchanges : goal.returns-in_default-clause-exchanges
returns-in_default-clause-exchanges g c =
    none_made c.args.pass _ _ _ _ c.args.number c.args.request (record { kept = c.ready.ensures.kept; calls = c.ready.ensures.calls }) (omega arith) refl

pub returns-in-Memory-clause-exchanges : goal.returns-in-Memory-clause-exchanges
returns-in-Memory-clause-exchanges g c =
    none_made c.args.pass _ _ _ _ c.args.number c.args.request (record { kept = c.ready.ensures.kept; calls = c.ready.ensures.calls }) (omega arith) refl

pub returns-in-Command-clause-exchanges : goal.returns-in-Command-clause-exchanges
returns-in-Command-clause-exchanges g c = c.decide.ensures.exchanges (g.P.Desk.desk c.args.desk.now) (record { kept = c.ready.ensures.kept; calls = c.ready.ensures.calls })

pub returns-in-Refused-clause-exchanges : goal.returns-in-Refused-clause-exchanges
returns-in-Refused-clause-exchanges g c = c.refuse.ensures.exchanges (g.P.Desk.desk c.args.desk.now) _ (record { kept = c.ready.ensures.kept; calls = c.ready.ensures.calls })

pub returns-in-NoRoute-clause-exchanges : goal.returns-in-NoRoute-clause-exchanges
returns-in-NoRoute-clause-exchanges g c = c.refuse-in-NoRoute.ensures.exchanges (g.P.Desk.desk c.args.desk.now) _ (record { kept = c.ready.ensures.kept; calls = c.ready.ensures.calls })

pub returns-in-NoMethod-clause-exchanges : goal.returns-in-NoMethod-clause-exchanges
returns-in-NoMethod-clause-exchanges g c = c.refuse-in-NoMethod.ensures.exchanges (g.P.Desk.desk c.args.desk.now) _ (record { kept = c.ready.ensures.kept; calls = c.ready.ensures.calls })
