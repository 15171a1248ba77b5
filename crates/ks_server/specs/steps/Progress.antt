-- How far a connection has come.
use Rattle.std.specs.Prelude.{◌≡◌, ℕ, ◌≤◌, List, ◌++◌, length, Option, Some}
use Rattle.ks_http.specs.declared.buffer.TheConstants.{PIECE_BYTES}
use Rattle.ks_http.specs.Requests.{AreFirst}
use Rattle.ks_machine.specs.Fronts.{Front}
use Rattle.ks_outside.specs.Desks.{DeskState}
use Rattle.ks_outside.specs.Files.{DirState}
use Rattle.ks_outside.specs.Streams.{StreamState}
use Rattle.ks_server.specs.Exchanges.{Exchange, requests_of}
use Rattle.ks_server.specs.Sessions.{AreTold, responses}
use Rattle.ks_server.specs.Ties.{AreNumbered}
use Rattle.ks_server.specs.Work.{Works}
use Rattle.ks_turn.specs.Passes.{Passed}

-- these requests were answered, and these bytes are next, of which at most a piece was read
pub record StandsBehind (journal : Front) (input before held : List ℕ) (left written : Option (List ℕ)) (xs : List Exchange) : Type 0 where
  pub rest : List ℕ
  pub left_is : left ≡ Some rest
  pub are : AreFirst 0 input (requests_of xs) (held ++ rest)
  pub short : length held ≤ PIECE_BYTES
  pub told : AreTold journal xs
  pub written_is : written ≡ Some (before ++ responses journal 0 xs)

-- so many requests were answered
pub record Progress {Link : Type 0} (old now : Passed) (desk desk_now : DeskState Link) (dir dir_now : DirState) (connection count : ℕ) (link link_now : StreamState) (held : List ℕ) : Type 0 where
  pub exchanges : List Exchange
  pub works : Works old now desk desk_now dir dir_now exchanges
  pub numbered : AreNumbered connection 0 exchanges
  pub count_is : length exchanges ≡ count
  pub told : (text before : List ℕ) → link.left ≡ Some text → link.written ≡ Some before
      → StandsBehind now.seen text before held link_now.left link_now.written exchanges
  pub reads : link.read_faults ≤ link_now.read_faults
  pub writes : link.write_faults ≤ link_now.write_faults
  pub names : link_now.names ≡ link.names
