-- An identity with its keeper may go to another thread where the keeper may.
use denote.RattleType.{RattleType}
use denote.Struct.Declared as declared
use denote.Struct.Struct.{Struct, Shape}
use denote.Param.Send.{IsSend, sendable, view_send, struct_send, recorded_send}
use Rattle.std.proofs.Crossing.{crosses}
use Rattle.ks_base.specs.contracts.bytes.Bytes as bytes
use Rattle.ks_keep.specs.contracts.booked.Booked as booked
use Rattle.ks_keep.specs.declared.since.Since as named
use Rattle.ks_keeper.specs.declared.keeper.Keeper as keeper
use Rattle.ks_state.proofs.SendLemmas.{identity_send}

bytes_send : IsSend bytes.the_row
bytes_send = search (crosses, sendable) depth 40

module _ (K N : RattleType) (keeps : keeper.Ghosts K.Denot) (holds : named.Ghosts N.Denot) where
  abbrev shape : Shape
  shape = declared.shape (booked.TheInside.the_type K N keeps holds)

  fields_send : IsSend K → IsSend (Struct shape)
  fields_send k = struct_send shape (
    search (crosses, sendable) depth 20,
    (identity_send, (search (k, sendable) depth 10, (search (bytes_send, crosses, sendable) depth 30, (search sendable depth 10, (search (crosses, sendable) depth 20, tt))))),
  )

  pub booked_send : IsSend K → IsSend (booked.the_row K N keeps holds)
  booked_send k =
      let of = booked.TheInside.the_type K N keeps holds in
      view_send (booked.TheInside.the_row K N keeps holds) _ _ _ _ (recorded_send (Struct shape) _ of.to of.to_one (fields_send k))
