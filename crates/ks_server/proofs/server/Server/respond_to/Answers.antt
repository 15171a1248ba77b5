use Rattle.ks_server.proofs.AnswerLemmas.{answers_memory, answers_reply}
use Rattle.ks_server.proofs.server.Server.respond_to.Goals as goal

pub returns-in-Reply-clause-answers : goal.returns-in-Reply-clause-answers
returns-in-Reply-clause-answers g c =
    answers_reply (rw c.in-Reply.is at c.exchange-pass.ensures.exchanges) c.args.self.now.url.now c.is_head-head.result c.is_last-close.result
    c.requires.url c.is_head-head.ensures c.is_last-close.ensures c.respond-result.ensures.told c.respond-result.ensures.writes c.respond-result.ensures.others

pub returns-in-Memory-clause-answers : goal.returns-in-Memory-clause-answers
returns-in-Memory-clause-answers g c =
    answers_memory (rw c.in-Memory.is at c.exchange-pass.ensures.exchanges) c.give_up.ensures.told c.give_up.ensures.writes c.give_up.ensures.others
