use denote.Param.Send.{sendable}
use Rattle.ks_state.proofs.SendLemmas.{identity_send}
use Rattle.ks_worker_cases.proofs.new_rule.hold_back.Goals as goal

pub beside-replies-requires-send-I : goal.beside-replies-requires-send-I
beside-replies-requires-send-I g _ κs _ = search (identity_send, sendable) depth 20
