use denote.Param.Send.{sendable}
use Rattle.ks_state.proofs.SendLemmas.{identity_send}
use Rattle.ks_worker_cases.proofs.old_password.change_meanwhile.Goals as goal

pub beside-pass-requires-send-I : goal.beside-pass-requires-send-I
beside-pass-requires-send-I g _ κs _ = search (identity_send, sendable) depth 20
