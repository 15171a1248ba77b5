use Rattle.std.proofs.Common.{ap, refl}
use Rattle.ks_server.proofs.ExchangeLemmas.{HasInputs, Steps, call_fits, called_exchanges, none_made}
use Rattle.ks_server.proofs.server.Server.decide.Goals as goal

pub returns-in_default-clause-exchanges : goal.returns-in_default-clause-exchanges
returns-in_default-clause-exchanges g c before ready =
    none_made c.args.pass _ _ _ _ c.args.number c.args.request ready c.read_folder.ensures.kept c.read_folder.ensures.files

pub next_call-pass-requires-clause-fit : goal.next_call-pass-requires-clause-fit
next_call-pass-requires-clause-fit g c =
    let inputs : HasInputs c.args.request c.args.command c.required-asked.result.draws c.required-asked.result.loads c.draw-draw.result c.in-Ok.folder = record {
      is = c.requires.is;
      draws_is = ap (λ r. r.draws) c.required-asked.ensures;
      loads_is = ap (λ r. r.loads) c.required-asked.ensures;
      drawn_is = c.draw-draw.ensures.is;
      read_is = c.in-Ok.ensures.read;
    } in
    call_fits c.args.request c.args.command c.required-asked.result.draws c.required-asked.result.loads c.reading-reading.result c.draw-draw.result c.in-Ok.folder
    c.call_of-call.result inputs c.call_of-call.ensures

pub returns-clause-exchanges : goal.returns-clause-exchanges
returns-clause-exchanges g c before ready =
    let steps : Steps c.args.pass c.next_call-pass.result.0 before (g.P.Desk.desk c.args.desk.now) (g.P.Desk.desk c.reading-reading.new.self) (g.P.Desk.desk c.draw-draw.new.desk)
    (g.P.Desk.desk c.note.new.self) (g.D.KeyDir.dir c.args.dir.now) (g.D.KeyDir.dir c.read_folder.new.dir) c.args.number c.args.request c.args.command
    c.reading-reading.result c.draw-draw.result c.in-Ok.folder c.call_of-call.result c.next_call-pass.result.1 c.has_failed-failed.result c.is_memory.result = record {
      draws = c.required-asked.result.draws;
      loads = c.required-asked.result.loads;
      inputs = record {
        is = c.requires.is;
        draws_is = ap (λ r. r.draws) c.required-asked.ensures;
        loads_is = ap (λ r. r.loads) c.required-asked.ensures;
        drawn_is = c.draw-draw.ensures.is;
        read_is = c.in-Ok.ensures.read;
      };
      call_is = c.call_of-call.ensures;
      called = c.next_call-pass.ensures.called;
      failed_is = c.has_failed-failed.ensures;
      memory_is = c.is_memory.ensures;
      folder = c.in-Ok.ensures.told;
      folder_faults = c.in-Ok.ensures.faults;
      files = c.read_folder.ensures.files;
      ready = ready;
      read_told = c.reading-reading.ensures.told;
      read_kept = c.reading-reading.ensures.kept;
      read_calls = c.reading-reading.ensures.calls;
      drawn_told = c.draw-draw.ensures.told;
      drawn_faults = c.draw-draw.ensures.faults;
      drawn_kept = c.draw-draw.ensures.kept;
      drawn_calls = c.draw-draw.ensures.calls;
      noted_told = c.note.ensures.told;
      noted_kept = c.note.ensures.kept;
      noted_calls = c.note.ensures.calls;
    } in
    called_exchanges steps c.of.result c.of.ensures
