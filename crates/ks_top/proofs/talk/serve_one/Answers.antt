use Rattle.std.proofs.Common.{◌≡◌, refl, rules}
use Rattle.ks_top.proofs.TalkLemmas.{first_is, served}
use Rattle.ks_server.specs.declared.service.Service.TheVariants as service
use Rattle.ks_top.proofs.talk.serve_one.Goals as goal

pub returns-clause-served : goal.returns-clause-served
returns-clause-served g c = λ before file file_after dir dir_after others keeper.
    served _ _ _ g.N.First.front (g.P.Desk.desk c.args.desk.now) c.in-Ok.made.1 c.serve_connection-pass.result.0 c.serve_connection-pass.result.1 c.ending.result _
    (first_is c.in-Ok.made.0 c.in-Ok.made.1 g.N.First.front c.in-Ok.ensures.made)
    c.serve_connection-pass.ensures.serves c.serve_connection-pass.ensures.links c.close.ensures.ends
    (record { left = refl; written = refl; reads = refl; writes = refl })
    (record { left = search rules; written = search rules; reads = search rules; writes = search rules })
    (rw c.unnamed-2.ensures c.close.ensures.stands.stands) c.ending.ensures refl

apart : service.ToEnd ≡ service.UntilRest → ⊥
apart e = cc e

pub ending-requires : goal.ending-requires
ending-requires g c = λ rests. apart (c.serve_connection-pass.ensures.rests rests)
