use denote.Exit.{no}
use denote.Param.Send.{arg_send, param_send}
use Rattle.ks_keeper.proofs.SendLemmas.{optional_book_send}
use Rattle.ks.proofs.main.Goals as goal

pub run-ended-requires-send-B : goal.run-ended-requires-send-B
run-ended-requires-send-B g c κs within = param_send 6 _ (arg_send _ no _ optional_book_send)
