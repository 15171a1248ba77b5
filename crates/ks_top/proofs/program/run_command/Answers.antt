use Rattle.std.proofs.Common.{◌≡◌, inr, refl}
use Rattle.ks_words.specs.declared.words.Words.TheVariants as asked
use Rattle.ks_words.specs.Words.{words_of}
use Rattle.ks_top.proofs.RunLemmas.{checks, drills, makes_record, rotates, runs_by, sets_up}
use Rattle.ks_top.specs.Runs.{Does, Runs}
use Rattle.ks_top.proofs.program.run_command.Goals as goal

pub returns-in-Ok-Check : goal.returns-in-Ok-Check
unfolding Does
returns-in-Ok-Check g c first others e =
    let is : asked.Check ≡ words_of c.args.words.now = (let w = c.in-Ok-Check.ensures.words in let i = c.in-Ok-Check.field-0-is in cc) in (
      first,
      others,
      e,
      rw c.of.ensures.end (runs_by _ _ _ _ asked.Check _ _ _ _ is
          (checks _ _ c.check.result _ c.of.ensures.fault c.check.ensures.told c.check.ensures.causes c.check.ensures.reads c.check.ensures.writes refl, refl)),
    )

pub returns-in-Ok-Talk : goal.returns-in-Ok-Talk
unfolding Does
returns-in-Ok-Talk g c first others e =
    let given : c.index_mut.result.now ≡ first = rw e at c.index_mut.ensures.value in
    let is : asked.Talk c.in-Ok-Talk._places ≡ words_of c.args.words.now = (let w = c.in-Ok-Talk.ensures.words in let i = c.in-Ok-Talk.field-0-is in cc) in
    rw (← given) (
      (c.talk-outcome.new.desk, c.talk-outcome.new.place),
      others,
      rw e refl,
      runs_by _ _ _ _ (asked.Talk c.in-Ok-Talk._places) _ _ _ _ is (c.talk-outcome.ensures others),
    )

pub returns-in-Ok-Setup : goal.returns-in-Ok-Setup
unfolding Does
returns-in-Ok-Setup g c first others e =
    let given : c.index_mut-in-Ok-Setup.result.now ≡ first = rw e at c.index_mut-in-Ok-Setup.ensures.value in
    let is : asked.Setup c.in-Ok-Setup._places ≡ words_of c.args.words.now = (let w = c.in-Ok-Setup.ensures.words in let i = c.in-Ok-Setup.field-0-is in cc) in
    rw (← given) (
      (c.set_up.new.desk, c.index_mut-in-Ok-Setup.result.now.1),
      others,
      rw e refl,
      rw c.of-outcome.ensures.end (runs_by _ _ _ _ (asked.Setup c.in-Ok-Setup._places) _ _ _ _ is (
        sets_up _ _ c.set_up.result _ c.of-outcome.ensures.fault c.set_up.ensures.told (record {
          causes = c.set_up.ensures.causes;
          folder = c.set_up.ensures.folder;
          draws = c.set_up.ensures.draws;
          writes = c.set_up.ensures.writes;
          desk = c.set_up.ensures.kept;
          others = refl;
        }) c.set_up.ensures.fills,
        refl,
      )),
    )

pub returns-in-Ok-Rotate : goal.returns-in-Ok-Rotate
unfolding Does
returns-in-Ok-Rotate g c first others e =
    let given : c.index_mut-in-Ok-Rotate.result.now ≡ first = rw e at c.index_mut-in-Ok-Rotate.ensures.value in
    let is : asked.Rotate c.in-Ok-Rotate._places c.in-Ok-Rotate.max ≡ words_of c.args.words.now = (let w = c.in-Ok-Rotate.ensures.words in let i = c.in-Ok-Rotate.field-0-is in cc) in
    rw (← given) (
      (c.rotate.new.desk, c.index_mut-in-Ok-Rotate.result.now.1),
      others,
      rw e refl,
      rw c.of-outcome-in-Ok-Rotate.ensures.end (runs_by _ _ _ _ (asked.Rotate c.in-Ok-Rotate._places c.in-Ok-Rotate.max) _ _ _ _ is (
        rotates c.in-Ok-Rotate.max _ _ c.rotate.result _ c.of-outcome-in-Ok-Rotate.ensures.fault c.rotate.ensures.told (record {
          causes = c.rotate.ensures.causes;
          folder = c.rotate.ensures.folder;
          draws = c.rotate.ensures.draws;
          writes = c.rotate.ensures.writes;
          desk = c.rotate.ensures.kept;
          others = refl;
        }) c.rotate.ensures.fills,
        refl,
      )),
    )

pub returns-in-Ok-Serve : goal.returns-in-Ok-Serve
unfolding Does
returns-in-Ok-Serve g c first others e =
    let is : asked.Serve c.in-Ok-Serve.places c.in-Ok-Serve.connections ≡ words_of c.args.words.now = (let w = c.in-Ok-Serve.ensures.words in let i = c.in-Ok-Serve.field-0-is in cc) in
    let s = c.serve.ensures (g.S.Stream.stream c.args.input.now) (g.K.Stream.stream c.args.output.now) first others e in
    (s.0, s.1, s.2, runs_by _ _ _ _ (asked.Serve c.in-Ok-Serve.places c.in-Ok-Serve.connections) _ _ _ _ is s.3)

pub returns-in-Ok-Password : goal.returns-in-Ok-Password
unfolding Does
returns-in-Ok-Password g c first others e =
    let given : c.index_mut-in-Ok-Password.result.now ≡ first = rw e at c.index_mut-in-Ok-Password.ensures.value in
    let is : asked.Password c.in-Ok-Password.rounds ≡ words_of c.args.words.now = (let w = c.in-Ok-Password.ensures.words in let i = c.in-Ok-Password.field-0-is in cc) in
    rw (← given) (
      (c.make_record.new.desk, c.index_mut-in-Ok-Password.result.now.1),
      others,
      rw e refl,
      rw c.of-outcome-in-Ok-Password.ensures.end (runs_by _ _ _ _ (asked.Password c.in-Ok-Password.rounds) _ _ _ _ is (
        makes_record c.in-Ok-Password.rounds _ _ c.make_record.result _ c.of-outcome-in-Ok-Password.ensures.fault (record {
          told = c.make_record.ensures.told;
          causes = c.make_record.ensures.causes;
          reach = c.make_record.ensures.reach;
          reads = c.make_record.ensures.reads;
          draws = c.make_record.ensures.draws;
          drew = c.make_record.ensures.drew;
          writes = c.make_record.ensures.writes;
          others = refl;
        }),
        refl,
      )),
    )

pub returns-in-Ok-Drill : goal.returns-in-Ok-Drill
unfolding Does
returns-in-Ok-Drill g c first others e =
    let is : asked.Drill c.in-Ok-Drill.start c.in-Ok-Drill.count ≡ words_of c.args.words.now = (let w = c.in-Ok-Drill.ensures.words in let i = c.in-Ok-Drill.field-0-is in cc) in (
      first,
      others,
      e,
      rw c.of-in-Ok-Drill.ensures.end (runs_by _ _ _ _ (asked.Drill c.in-Ok-Drill.start c.in-Ok-Drill.count) _ _ _ _ is (
        drills c.in-Ok-Drill.start c.in-Ok-Drill.count _ _ c.drill.result _ c.of-in-Ok-Drill.ensures.fault c.drill.ensures.told c.drill.ensures.causes c.drill.ensures.writes refl,
        refl,
      )),
    )

pub returns-in-Ok-Usage : goal.returns-in-Ok-Usage
unfolding Does
returns-in-Ok-Usage g c first others e =
    let is : asked.Usage ≡ words_of c.args.words.now = (let w = c.in-Ok-Usage.ensures.words in let i = c.in-Ok-Usage.field-0-is in cc) in
    (first, others, e, rw c.stopped.ensures.end (runs_by _ _ _ _ asked.Usage _ _ _ _ is (c.stopped.ensures.fault, refl, refl)))

pub returns-in-Err : goal.returns-in-Err
unfolding Runs
returns-in-Err g c first others e = (first, others, e, rw c.stopped-in-Err.ensures.end (inr (c.stopped-in-Err.ensures.fault, refl, refl)))
