use Rattle.ks_server.proofs.ExchangeLemmas.{refused_exchanges}
use Rattle.ks_server.proofs.server.refuse.Goals as goal

pub returns-clause-exchanges : goal.returns-clause-exchanges
returns-clause-exchanges g c before dir ready =
    refused_exchanges c.args.pass _ _ _ dir c.args.number c.args.request c.args.why _ _ c.requires.refused c.front-changes.ensures.sound c.front-changes.ensures.count c.front-changes.ensures.high
    ready c.note.ensures.told c.note.ensures.kept c.note.ensures.calls
