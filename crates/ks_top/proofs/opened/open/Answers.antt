use Rattle.std.proofs.Common.{[], refl, ap, subst}
use Rattle.ks_keep.specs.Pasts.{entries_of}
use Rattle.ks_top.specs.steps.Beginnings.{IsBegun}
use Rattle.ks_top.proofs.BeginLemmas.{again_tidy, goes_on_at, held_header, opened_anew, stopped_early}
use Rattle.ks_commands.proofs.CountLemmas.{looks_for, reads_for}
use Rattle.ks_top.proofs.opened.open.Goals as goal

pub returns-in_default : goal.returns-in_default
returns-in_default g c = record { opens = λ input output place others. stopped_early _ _ }

pub go_on-requires-clause-stands : goal.go_on-requires-clause-stands
go_on-requires-clause-stands g c =
    (subst (IsBegun _ _ _) c.in-Ok-Again.field-0-is
    (c.in-Ok-Again.ensures.begins (g.F.Stream.stream c.args.file.now) (g.F.Stream.stream c.args.file.now) (g.D.KeyDir.dir c.args.dir.now) [])).is_start

pub go_on-requires-clause-tidy : goal.go_on-requires-clause-tidy
go_on-requires-clause-tidy g c =
    again_tidy _ _ _ _
    (subst (IsBegun _ _ _) c.in-Ok-Again.field-0-is
    (c.in-Ok-Again.ensures.begins (g.F.Stream.stream c.args.file.now) (g.F.Stream.stream c.args.file.now) (g.D.KeyDir.dir c.args.dir.now) []))
    c.in-Ok-Again.ensures.since c.requires.tidy

pub returns-in-Ok-Anew : goal.returns-in-Ok-Anew
returns-in-Ok-Anew g c = record {
  opens = λ input output place others.
      opened_anew _ _ _ c.in-Ok-Anew.start c.begun_anew.result
      (subst (IsBegun _ _ _) c.in-Ok-Anew.field-0-is (c.in-Ok-Anew.ensures.begins input output place others))
      c.begun_anew.ensures.keeper c.begun_anew.ensures.identity c.begun_anew.ensures.url c.begun_anew.ensures.opening (ap entries_of c.begun_anew.ensures.past)
      (reads_for _ _ _ _ (λ e. absurd e) c.in-Ok-Anew.ensures.reads) c.in-Ok-Anew.ensures.reach (looks_for _ _ _ _ (λ e. absurd e) c.in-Ok-Anew.ensures.looks)
      c.in-Ok-Anew.ensures.faults.kept c.in-Ok-Anew.ensures.since;
}

pub returns-in-Ok-Again : goal.returns-in-Ok-Again
returns-in-Ok-Again g c = record {
  opens = λ input output place others.
      let begun = subst (IsBegun _ _ _) c.in-Ok-Again.field-0-is (c.in-Ok-Again.ensures.begins input output place others) in
      goes_on_at _ _ _ c.in-Ok-Again.start c.go_on.result begun (c.go_on.ensures (held_header _ _ _ _ begun))
      (reads_for _ _ _ _ (λ e. absurd e) c.in-Ok-Again.ensures.reads) c.in-Ok-Again.ensures.reach (looks_for _ _ _ _ (λ e. absurd e) c.in-Ok-Again.ensures.looks)
      c.in-Ok-Again.ensures.faults.kept c.in-Ok-Again.ensures.since refl;
}
