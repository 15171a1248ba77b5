use Rattle.std.proofs.Common.{◌≡◌, ◌++◌, length, min, refl, ap, ◌∙◌, arith}
use denote.Exit.{no}
use denote.Param.{param}
use denote.Param.Send.{arg_send, param_send}
use Rattle.ks_server.specs.Workers.{Place}
use Rattle.ks_keep.proofs.SendLemmas.{booked_send}
use Rattle.ks_top.proofs.ServeLemmas.{Left, appended, at_first, had_no_room, left_all, joined, left_length, grown, sound_of}
use Rattle.ks_top.proofs.TalkLemmas.{first_is}
use Rattle.ks_top.proofs.serve.serve_desks.Goals as goal

pub returns-in-Err-clause-served : goal.returns-in-Err-clause-served
returns-in-Err-clause-served g c input output file file_after dir dir_after before first others keeper e =
    let view : (g.row.P.Denot × g.row.D.Denot) → Place g.row.P-Link.Denot = λ d. record { desk = g.P.Desk.desk d.0; dir = g.D.KeyDir.dir d.1 } in
    had_no_room _ view g.P.Link.Stream.stream c.args.workers c.args.connections first others c.args.desks.items g.N.First.front _ _ e refl
    (rw (c.unnamed.ensures, c.in-Err.ensures.back) (c.new-booked.ensures.stands g.N.First.front c.requires.stands c.requires.book).stands) input output file file_after dir dir_after before keeper

pub returns-in_default-clause-served : goal.returns-in_default-clause-served
returns-in_default-clause-served g c input output file file_after dir dir_after before first others keeper e =
    let view : (g.row.P.Denot × g.row.D.Denot) → Place g.row.P-Link.Denot = λ d. record { desk = g.P.Desk.desk d.0; dir = g.D.KeyDir.dir d.1 } in
    had_no_room _ view g.P.Link.Stream.stream c.args.workers c.args.connections first others c.args.desks.items g.N.First.front _ _ e refl
    (at_first _ _ c.in-Ok.made.1 g.N.First.front (first_is c.in-Ok.made.0 c.in-Ok.made.1 g.N.First.front c.in-Ok.ensures.made) (rw c.unnamed-in_default.ensures c.close.ensures.stands.stands))
    input output file file_after dir dir_after before keeper

pub returns-in_default-split_off-clause-served : goal.returns-in_default-split_off-clause-served
returns-in_default-split_off-clause-served g c input output file file_after dir dir_after before first others keeper e =
    let view : (g.row.P.Denot × g.row.D.Denot) → Place g.row.P-Link.Denot = λ d. record { desk = g.P.Desk.desk d.0; dir = g.D.KeyDir.dir d.1 } in
    had_no_room _ view g.P.Link.Stream.stream c.args.workers c.args.connections first others c.split_off.new.self.items g.N.First.front _ _
    (ap (λ (v : _). v.items) c.in_default-split_off.ensures.err ∙ e) refl
    (at_first _ _ c.in-Ok.made.1 g.N.First.front (first_is c.in-Ok.made.0 c.in-Ok.made.1 g.N.First.front c.in-Ok.ensures.made) (rw c.unnamed-in_default-split_off.ensures c.close-in_default-split_off.ensures.stands.stands))
    input output file file_after dir dir_after before keeper

pub serve-served-requires-send-I : goal.serve-served-requires-send-I
serve-served-requires-send-I g c κs _ =
    param_send 0 _ (arg_send _ no _ (booked_send (param 4 g.row.B) (param 0 g.row.N) g.B.Keeper g.N.Since c.type_bounds.send-B))

pub new-requires : goal.new-requires
new-requires g c = c.new-booked.ensures.stands g.N.First.front c.requires.stands c.requires.book

pub unwrap-requires : goal.unwrap-requires
unwrap-requires g c =
    let view : (g.row.P.Denot × g.row.D.Denot) → Place g.row.P-Link.Denot = λ d. record { desk = g.P.Desk.desk d.0; dir = g.D.KeyDir.dir d.1 } in
    let left : Left view g.P.Link.Stream.stream c.args.connections g.N.First.front c.in-Ok.made.1 c.serve-served.result.pass c.split_off.new.self.items c.serve-served.result.desks.items c.serve-served.result.failed c.serve-served.result.keeper c.serve-served.result.memory =
    record {
      begins = first_is c.in-Ok.made.0 c.in-Ok.made.1 g.N.First.front c.in-Ok.ensures.made;
      idle = c.serve-served.ensures.idle;
      serves = c.serve-served.ensures.served;
    } in
    let same = left_length _ _ _ _ _ _ _ _ _ _ _ left in
    let served = c.serve-served.result.desks.ok.0 in
    let working = c.split_off.new.self.ok.0 in
    c.append.ensures.succeeds (omega (arith, same, served, working, c.in-Ok-with_capacity.ensures.len, c.in-Ok-with_capacity.ensures.exact, c.in-Ok-split_off.ensures.len))

pub unwrap-requires-2 : goal.unwrap-requires-2
unwrap-requires-2 g c =
    let view : (g.row.P.Denot × g.row.D.Denot) → Place g.row.P-Link.Denot = λ d. record { desk = g.P.Desk.desk d.0; dir = g.D.KeyDir.dir d.1 } in
    let left : Left view g.P.Link.Stream.stream c.args.connections g.N.First.front c.in-Ok.made.1 c.serve-served.result.pass c.split_off.new.self.items c.serve-served.result.desks.items c.serve-served.result.failed c.serve-served.result.keeper c.serve-served.result.memory =
    record {
      begins = first_is c.in-Ok.made.0 c.in-Ok.made.1 g.N.First.front c.in-Ok.ensures.made;
      idle = c.serve-served.ensures.idle;
      serves = c.serve-served.ensures.served;
    } in
    let same = left_length _ _ _ _ _ _ _ _ _ _ _ left in
    let served = c.serve-served.result.desks.ok.0 in
    let working = c.split_off.new.self.ok.0 in
    let ok = c.append.ensures.succeeds (omega (arith, same, served, working, c.in-Ok-with_capacity.ensures.len, c.in-Ok-with_capacity.ensures.exact, c.in-Ok-split_off.ensures.len)) in
    let long = grown c.append.result _ _ _ ok c.append.ensures.len in
    c.append-2.ensures.succeeds (omega (arith, same, served, working, long, c.append.ensures.capacity, c.in-Ok-with_capacity.ensures.len, c.in-Ok-with_capacity.ensures.exact, c.in-Ok-split_off.ensures.len, c.in-Ok-split_off.ensures.tail_len))

pub returns-clause-served : goal.returns-clause-served
returns-clause-served g c input output file file_after dir dir_after before first others keeper e =
    let view : (g.row.P.Denot × g.row.D.Denot) → Place g.row.P-Link.Denot = λ d. record { desk = g.P.Desk.desk d.0; dir = g.D.KeyDir.dir d.1 } in
    let left : Left view g.P.Link.Stream.stream c.args.connections g.N.First.front c.in-Ok.made.1 c.serve-served.result.pass c.split_off.new.self.items c.serve-served.result.desks.items c.serve-served.result.failed c.serve-served.result.keeper c.serve-served.result.memory =
    record {
      begins = first_is c.in-Ok.made.0 c.in-Ok.made.1 g.N.First.front c.in-Ok.ensures.made;
      idle = c.serve-served.ensures.idle;
      serves = c.serve-served.ensures.served;
    } in
    let same = left_length _ _ _ _ _ _ _ _ _ _ _ left in
    let served = c.serve-served.result.desks.ok.0 in
    let working = c.split_off.new.self.ok.0 in
    let ok = c.append.ensures.succeeds (omega (arith, same, served, working, c.in-Ok-with_capacity.ensures.len, c.in-Ok-with_capacity.ensures.exact, c.in-Ok-split_off.ensures.len)) in
    let long = grown c.append.result _ _ _ ok c.append.ensures.len in
    let ok-2 = c.append-2.ensures.succeeds (omega (arith, same, served, working, long, c.append.ensures.capacity, c.in-Ok-with_capacity.ensures.len, c.in-Ok-with_capacity.ensures.exact, c.in-Ok-split_off.ensures.len, c.in-Ok-split_off.ensures.tail_len)) in
    let count : c.min-count.result ≡ min c.args.workers (length c.args.desks.items) = omega (arith, c.min-count.ensures, c.len.ensures, c.args.desks.ok.0) in
    let one : c.append.new.self.items ≡ c.in-Ok-with_capacity.all.items ++ c.serve-served.result.desks.items =
    appended c.append.result c.in-Ok-with_capacity.all.items c.serve-served.result.desks.items c.append.new.self.items ok c.append.ensures.items in
    let two : c.append-2.new.self.items ≡ c.append.new.self.items ++ c.in-Ok-split_off.others.items =
    appended c.append-2.result c.append.new.self.items c.in-Ok-split_off.others.items c.append-2.new.self.items ok-2 c.append-2.ensures.items in
    left_all _ view g.P.Link.Stream.stream c.args.workers c.args.connections c.min-count.result first others c.args.desks.items c.split_off.new.self.items c.serve-served.result.desks.items c.append-2.new.self.items g.N.First.front
    c.in-Ok.made.1 c.serve-served.result.pass c.serve-served.result.failed c.serve-served.result.keeper c.serve-served.result.memory _ _
    c.requires.workers e count c.in-Ok-split_off.ensures.items
    (joined _ _ _ _ _ _ c.in-Ok-with_capacity.ensures.items one two c.in-Ok-split_off.ensures.tail) left
    (sound_of _ g.N.First.front c.requires.stands) c.close-2.ensures.ends (rw c.unnamed-2.ensures c.close-2.ensures.stands.stands) c.ending.ensures
    input output file file_after dir dir_after before keeper
