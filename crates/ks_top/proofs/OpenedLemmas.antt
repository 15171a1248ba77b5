-- An identity that was opened, at the end of its run.
use Rattle.std.proofs.Common.{◌≡◌, sym, subst}
use Rattle.ks_keeper.specs.Keeper.{Keeping}
use Rattle.ks_machine.specs.Fronts.{Front}
use Rattle.ks_outside.specs.Desks.{DeskState}
use Rattle.ks_outside.specs.Files.{OnlyLooks}
use Rattle.ks_outside.specs.Streams.{OnlyReads, StreamState}
use Rattle.ks_top.specs.declared.opened.OpenIdentity.{OpenIdentity}
use Rattle.ks_top.specs.Identities as end
use Rattle.ks_commands.specs.Opened.{ReadsFile}
use Rattle.ks_top.specs.World.{World}
use Rattle.ks_top.specs.steps.Beginnings.{IsOpenedAt, front_of}
use Rattle.ks_top.proofs.BeginLemmas.{begins_later}

-- what was done behind an opening, where the file and the folder were left alone since, and the keeper, if it is whole, was so then
pub opened_then : {Link Seat K : Type 0} (keeping : Keeping K) (Done : Front → DeskState Link → Type 0) (old mid new : World Link Seat K) (opened : OpenIdentity K) → IsOpenedAt keeping old mid opened
    → (keeping.whole new.keeper → keeping.whole mid.keeper) → new.file ≡ mid.file → new.dir ≡ mid.dir → Done (front_of opened) mid.desk
    → end.Opened keeping Done old new
opened_then keeping Done old mid new opened is since file dir done = record {
  first = front_of opened;
  desk = mid.desk;
  begins = begins_later keeping old mid new mid.desk (front_of opened) since dir is.begins;
  lawful = is.lawful;
  file = subst (OnlyReads ⊥ old.file) (sym file) is.file;
  reach = λ told left. subst (λ (s : StreamState). ReadsFile told s.left) (sym file) (is.reach told left);
  folder = subst (OnlyLooks ⊥ old.dir) (sym dir) is.folder;
  since = λ whole. is.since (since whole);
  done = done;
}
