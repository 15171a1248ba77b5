use Rattle.ks_server.proofs.server.Server.answer.Goals as goal

pub returns-clause-links : goal.returns-clause-links
returns-clause-links g c = rw c.tell.ensures c.respond_to-pass.ensures.links

pub returns-clause-answers : goal.returns-clause-answers
returns-clause-answers g c = rw c.tell.ensures c.respond_to-pass.ensures.answers
