use Rattle.std.proofs.Common.{arith, rules, sym, ◌∙◌}
use Rattle.ks_keyfiles.proofs.ReadingLemmas.{indices_more, read_all, read_bad, read_more}
use Rattle.ks_keyfiles.proofs.reading.read_files.Goals as goal

pub returns-in_default-clause-told : goal.returns-in_default-clause-told
returns-in_default-clause-told g c = λ files told.
    let found = c.in_ok-key.ensures.told files (c.files.invariant.looks.files ∙ told) in
    read_bad c.args.indices.now files c.files.keys c.files.index-index c.requires.rising (c.requires.listed files told) (omega arith)
    (sym c.in_default.is ∙ found) (c.files.invariant.so_far files told)

pub files-preserved : goal.files-preserved
files-preserved g c = record {
  so_far = λ files told.
      let found = c.in_ok-key.ensures.told files (c.files.invariant.looks.files ∙ told) in
      rw c.in_ok-push.ensures.ok (read_more c.args.indices.now files c.files.keys c.files.index-index c.in-Some.key c.requires.rising (c.requires.listed files told) (omega arith)
      (sym c.in-Some.is ∙ found) (c.files.invariant.so_far files told));
  read = rw c.in_ok-push.ensures.ok (indices_more c.args.indices.now c.files.keys c.files.index-index c.in-Some.key (omega arith) c.files.invariant.read);
  looks = search rules;
}

pub returns-clause-told : goal.returns-clause-told
returns-clause-told g c = λ files told.
    read_all c.args.indices.now files c.files.keys c.files.index-index (c.requires.listed files told) (omega arith) (c.files.invariant.so_far files told)
