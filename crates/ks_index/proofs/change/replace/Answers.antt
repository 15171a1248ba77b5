use Rattle.std.proofs.Common.{sym, subst}
use Rattle.ks_index.specs.Indexes.{AreNamesBut, full_cmp, full_name}
use Rattle.ks_index.proofs.IndexLemmas.{set_index}
use Rattle.ks_index.proofs.change.replace.Goals as goal

pub put_in-requires-clause-but : goal.put_in-requires-clause-but
put_in-requires-clause-but g c =
    let but = subst (λ l. AreNamesBut g.R.Named.within g.R.Named.naming g.R.Row.key l c.take_out.new.names.items c.args.at) c.as_slice.ensures.value c.take_out.ensures.but in
    subst (λ l. AreNamesBut g.R.Named.within g.R.Named.naming g.R.Row.key l c.take_out.new.names.items c.args.at) (sym c.as_slice-2.ensures.value)
    (set_index full_cmp (full_name g.R.Named.within g.R.Named.naming g.R.Row.key) c.args.rows.now.items c.take_out.new.names.items c.args.at c.set.new.self but)
