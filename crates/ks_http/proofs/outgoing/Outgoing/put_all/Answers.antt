use Rattle.std.proofs.Common.{refl, rules}
use Rattle.ks_http.proofs.WriteLemmas.{next_piece, stops_at}
use Rattle.ks_http.proofs.outgoing.Outgoing.put_all.Goals as goal

pub returns-in_err-put-clause-told : goal.returns-in_err-put-clause-told
returns-in_err-put-clause-told g c =
    stops_at (λ piece. piece.now) c.args.pieces.now c.loop-piece.piece-index _ _ refl c.loop-piece-test.true c.from_residual.ensures.0 c.loop-piece.invariant.told c.in_err-put.ensures.told

pub loop-piece-preserved : goal.loop-piece-preserved
loop-piece-preserved g c = record {
  told = next_piece (λ piece. piece.now) c.args.pieces.now c.loop-piece.piece-index _ _ refl c.loop-piece-test.true c.loop-piece.invariant.told c.in_ok-put.ensures.told;
  writes = search rules;
}
