use Rattle.std.proofs.Common.{◌≡◌, [], ◌++◌, Ok, Err, refl, arith}
use Rattle.ks_outside.specs.declared.failed.Failed.{Failed}
use Rattle.ks_http.proofs.WriteLemmas.{and_then, stops, wrote, of_halves, holds}
use Rattle.ks_http.proofs.outgoing.Outgoing.put_long.Goals as goal

pub returns-in_err-write_all-clause-told : goal.returns-in_err-write_all-clause-told
returns-in_err-write_all-clause-told g c =
    let all : c.as_slice.result.now ≡ c.args.self.now ++ c.split_at.result.0.now = grind arith in
    of_halves c.remaining_capacity.result c.args.bytes.now c.split_at.ensures.front c.split_at.ensures.back
    (stops _ c.from_residual.ensures.0 (wrote {T = Unit {0}} (Err c.in_err-write_all.field-0.0) _ _ _ _ _ all c.in_err-write_all.ensures.told))

pub returns-then-is_ok-clause-told : goal.returns-then-is_ok-clause-told
returns-then-is_ok-clause-told g c =
    let all : c.as_slice.result.now ≡ c.args.self.now ++ c.split_at.result.0.now = grind arith in
    let held : c.try_extend_from_slice-2.new.self.items ≡ c.split_at.result.1.now = grind arith in
    rw held
    (of_halves c.remaining_capacity.result c.args.bytes.now c.split_at.ensures.front c.split_at.ensures.back
    (and_then (wrote {E = Failed} (Ok c.in_ok-write_all.field-0) _ _ _ _ _ all c.in_ok-write_all.ensures.told) (holds tt [] c.split_at.result.1.now _)))

pub returns-clause-told : goal.returns-clause-told
returns-clause-told g c =
    let all : c.as_slice.result.now ≡ c.args.self.now ++ c.split_at.result.0.now = grind arith in
    let none : c.try_extend_from_slice-2.new.self.items ≡ [] = grind arith in
    rw none
    (of_halves c.remaining_capacity.result c.args.bytes.now c.split_at.ensures.front c.split_at.ensures.back
    (and_then (wrote {E = Failed} (Ok c.in_ok-write_all.field-0) _ _ _ _ _ all c.in_ok-write_all.ensures.told) (wrote c.write_all-2.result [] _ _ _ _ refl c.write_all-2.ensures.told)))
