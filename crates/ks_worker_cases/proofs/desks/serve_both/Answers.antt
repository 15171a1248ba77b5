use denote.Param.Send.{sendable}
use Rattle.ks_state.proofs.SendLemmas.{identity_send}
use Rattle.ks_worker_cases.proofs.desks.serve_both.Goals as goal

pub serve-served-requires-send-I : goal.serve-served-requires-send-I
serve-served-requires-send-I g _ κs _ = search (identity_send, sendable) depth 20
