use Rattle.std.proofs.Common.{ℕ, IfSome, Ok, Err, refl, sym, ap, subst, ◌∙◌}
use Rattle.ks_auth.specs.Facts.{told}
use Rattle.ks_machine.specs.declared.cause.Cause.TheVariants as cause
use Rattle.ks_machine.specs.declared.reply.Reply.TheVariants as reply
use Rattle.ks_machine.specs.Room.{event_limit}
use Rattle.ks_state.specs.Deciding.{IsPlanned}
use Rattle.ks_state.specs.Replies.{CarriesOut, IsReply}
use Rattle.ks_state.specs.Shown.{FitsWithRoom, Shown, raised_to}
use Rattle.ks_state.proofs.SettleLemmas.{done_reply, lacking_is, no_memory_reply, planned_fits, refused_reply}
use Rattle.ks_state.proofs.identity.Identity.settle.Goals as goal

pub carry_out-requires : goal.carry_out-requires
carry_out-requires c =
    let f = c.requires.stands.0 in
    let stands = c.requires.stands.1 in
    let planned = subst (IsPlanned (told c.args._facts.now) f c.args.call.now) (c.in-Ok.is ∙ ap Ok c.in-Ok.plan-is) (c.requires.planned f stands) in
    subst (λ (n : ℕ). IfSome c.in-Ok.plan.change (λ what. FitsWithRoom n c.raise.new.self what)) (sym c.event_limit-most.ensures)
    (subst (λ (v : Shown). IfSome c.in-Ok.plan.change (λ what. FitsWithRoom (event_limit c.args.call.now.command) v what)) (sym c.raise.ensures)
    (planned_fits c.args._facts.now c.args.self.now f c.args.call.now c.args.moment c.in-Ok.plan c.few_facts_suffice.ensures c.requires.lawful
    c.requires.fit stands c.requires.moment planned))

pub returns-in-Ok : goal.returns-in-Ok
returns-in-Ok c = record {
  decided = λ f stands.
      let planned = subst (IsPlanned (told c.args._facts.now) f c.args.call.now) (c.in-Ok.is ∙ ap Ok c.in-Ok.plan-is) (c.requires.planned f stands) in
      done_reply c.args._facts.now c.args.self.now f c.args.call.now c.args.moment c.in-Ok.plan c.carry_out.result c.carry_out.new.self
      c.few_facts_suffice.ensures c.requires.lawful c.requires.fit stands c.requires.moment planned
      (subst (λ (n : ℕ). CarriesOut c.in-Ok.plan.told c.in-Ok.plan.change n (raised_to c.args.moment c.args.self.now) c.carry_out.result c.carry_out.new.self) c.event_limit-most.ensures
      (subst (λ (v : Shown). CarriesOut c.in-Ok.plan.told c.in-Ok.plan.change c.event_limit-most.result v c.carry_out.result c.carry_out.new.self) c.raise.ensures c.carry_out.ensures));
}

pub returns-in-Err-Refused : goal.returns-in-Err-Refused
returns-in-Err-Refused c = record {
  decided = λ f stands.
      let is = c.in-Err-Refused.is ∙ ap Err c.in-Err-Refused.field-0-is in
      let planned = subst (IsPlanned (told c.args._facts.now) f c.args.call.now) is (c.requires.planned f stands) in
      subst (λ (v : Shown). IsReply f c.args.call.now (reply.Refused c.in-Err-Refused.cause) v) (sym c.raise-in-Err-Refused.ensures)
      (refused_reply c.args._facts.now c.args.self.now f c.args.call.now c.args.moment c.in-Err-Refused.cause c.few_facts_suffice.ensures stands c.requires.moment planned);
}

pub returns-in-Err-Needs : goal.returns-in-Err-Needs
returns-in-Err-Needs c = record {
  decided = λ f stands.
      let is = c.in-Err-Needs.is ∙ ap Err c.in-Err-Needs.field-0-is in
      let planned = subst (IsPlanned (told c.args._facts.now) f c.args.call.now) is (c.requires.planned f stands) in
      let lack = lacking_is c.args._facts.now f c.args.call.now c.in-Err-Needs.needs planned in
      (lack.0, lack.1, lack.2, refl);
}

pub returns-in-Err-Memory : goal.returns-in-Err-Memory
returns-in-Err-Memory c = record {
  decided = λ f stands.
      subst (λ (v : Shown). IsReply f c.args.call.now (reply.Refused cause.Memory) v) (sym c.raise-in-Err-Memory.ensures)
      (no_memory_reply c.args.self.now f c.args.call.now c.args.moment stands c.requires.moment);
}
