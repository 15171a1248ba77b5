use Rattle.ks_state.proofs.KeptLemmas.{decided_by, makes_more}
use Rattle.ks_state.proofs.in_memory.IdentityDecides.decide.Goals as goal

pub returns-clause-decided : goal.returns-clause-decided
returns-clause-decided c = λ f stands.
    decided_by c.args.facts.now f c.args.call.now c.decide.result c.args.self.now c.decide.new.self c.lawful_states_are_orderly.ensures.orderly
    c.steps_lack_what_can_be_found.ensures.ranges c.steps_lack_what_can_be_found.ensures.unknown c.holds_few_keys.ensures c.requires.fit stands.stands (c.decide.ensures f stands.stands)

pub returns-clause-kept : goal.returns-clause-kept
returns-clause-kept c =
    let f = c.requires.stands.0 in
    let stands = c.requires.stands.1.stands in
    makes_more c.args.facts.now f c.args.call.now c.decide.result c.args.self.now c.decide.new.self stands (c.decide.ensures f stands)
