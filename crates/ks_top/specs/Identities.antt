-- What `talk` and `serve` do alike: they begin with the opening of the file or go on from what the keeper holds, or stop before that.
use Rattle.std.specs.Prelude.{◌≡◌, ◌⊎◌, ℕ, List, Option, Some, None}
use Rattle.ks_base.specs.declared.shapes.ShapeFault.{ShapeFault}
use Rattle.ks_entries.specs.declared.header.Header.{Header}
use Rattle.ks_keep.specs.Books.{AreKept, BookedState, HasHeader, StandsBooked}
use Rattle.ks_keeper.specs.Keeper.{Keeping}
use Rattle.ks_machine.specs.declared.change.Entry.{Entry}
use Rattle.ks_machine.specs.Fronts.{Front, first_front}
use Rattle.ks_machine.specs.Lawful.{IsLawful}
use Rattle.ks_machine.specs.Openings.{PlainOpening}
use Rattle.ks_outside.specs.Counts.{Counts}
use Rattle.ks_outside.specs.Desks.{DeskState}
use Rattle.ks_outside.specs.Files.{OnlyLooks}
use Rattle.ks_outside.specs.Streams.{OnlyReads}
use Rattle.ks_setup.specs.declared.opening.OpeningFault.TheVariants as refusal
use Rattle.ks_setup.specs.Headers.{GivesOpening}
use Rattle.ks_state.specs.Restoring.{restored_front}
use Rattle.ks_commands.specs.declared.fault.Fault.{Fault}
use Rattle.ks_commands.specs.declared.fault.Fault.TheVariants as fault
use Rattle.ks_commands.specs.Opened.{IsGiven, IsOpening, IsOther, ReadsFile, RefusesForm, StopsOpening, StopsRestoring}
use Rattle.ks_top.specs.World.{World}

-- the keeper has no header yet
abbrev pub HasNoHeader : {Link Seat K : Type 0} → Keeping K → World Link Seat K → World Link Seat K → Type 0
HasNoHeader keeping old new = keeping.whole new.keeper → (keeping.kept old.keeper).header ≡ None

-- | a server begins with the opening of its file, before any change; its keeper had no header
pub record BeginsAnew {Link Seat K : Type 0} (keeping : Keeping K) (old new : World Link Seat K) (desk : DeskState Link) (first : Front) : Type 0 where
  pub opening : PlainOpening
  pub opened : IsOpening old.file old.dir old.desk desk opening
  pub is_first : first ≡ first_front opening
  pub no_header : HasNoHeader keeping old new

-- | a server goes on from what its keeper holds: the opening that its header gives, and all its entries; the folder and the desk are left
-- alone
pub record GoesOn {Link Seat K : Type 0} (keeping : Keeping K) (old new : World Link Seat K) (desk : DeskState Link) (first : Front) : Type 0 where
  pub header : Header
  pub opening : PlainOpening
  pub entries : List Entry
  pub given : IsGiven keeping old.file old.keeper new.keeper header
  pub gives : GivesOpening header opening
  pub all : keeping.whole new.keeper → AreKept (keeping.kept old.keeper).entries entries
  pub is_first : first ≡ restored_front opening entries
  pub same_desk : desk ≡ old.desk
  pub folder : new.dir ≡ old.dir

-- | the front that a server begins with, behind which the first desk was this
abbrev pub Begins : {Link Seat K : Type 0} → Keeping K → World Link Seat K → World Link Seat K → DeskState Link → Front → Type 0
Begins keeping old new desk first = BeginsAnew keeping old new desk first ⊎ GoesOn keeping old new desk first

-- | an identity was opened, and then this was done, from the front with which it began and with the first desk as that left it
pub record Opened {Link Seat K : Type 0} (keeping : Keeping K) (Done : Front → DeskState Link → Type 0) (old new : World Link Seat K) : Type 0 where
  pub first : Front
  pub desk : DeskState Link
  pub begins : Begins keeping old new desk first
  pub lawful : IsLawful first
  pub file : OnlyReads ⊥ old.file new.file
  pub reach : (told : List ℕ) → old.file.left ≡ Some told → ReadsFile told new.file.left
  pub folder : OnlyLooks ⊥ old.dir new.dir
  pub since : keeping.whole new.keeper → keeping.whole old.keeper
  pub done : Done first desk

-- a server with a header does not go on from it
pub record StopsGiven {Link Seat K : Type 0} (keeping : Keeping K) (old new : World Link Seat K) (f : Fault) : Type 0 where
  pub header : Header
  pub given : IsGiven keeping old.file old.keeper new.keeper header
  pub stops : StopsRestoring keeping old.keeper new.keeper header f
  pub desk : new.desk ≡ old.desk
  pub folder : new.dir ≡ old.dir

-- | a server does not begin, for this: its header could not be read, or there is none and its file is refused, or it is another's, or what
-- it gives is refused. Whatever the header is, the form of the file may be refused
pub data Stops {Link Seat K : Type 0} (keeping : Keeping K) (old new : World Link Seat K) : Fault → Type 0 where
  unread : new.desk ≡ old.desk → Stops keeping old new (fault.Keeper None)
  unformed : (reason : ShapeFault) → RefusesForm old.file reason → new.desk ≡ old.desk → Stops keeping old new (fault.Opening (refusal.Shape reason))
  anew : (f : Fault) → HasNoHeader keeping old new → StopsOpening old.file old.dir old.desk new.desk f → Stops keeping old new f
  early : (f : Fault) → new.desk ≡ old.desk → (f ≡ fault.Read) ⊎ (f ≡ fault.Memory) → Stops keeping old new f
  other : IsOther keeping old.file old.keeper new.keeper → new.desk ≡ old.desk → Stops keeping old new fault.OtherOpening
  given : (f : Fault) → StopsGiven keeping old new f → Stops keeping old new f

-- a keeper had no header, and has that of the opening of the file now, which is not refused; its entries are the same
pub record HasPut {Link Seat K : Type 0} (keeping : Keeping K) (old new : World Link Seat K) : Type 0 where
  pub opening : PlainOpening
  pub opened : IsOpening old.file old.dir old.desk new.desk opening
  pub lawful : IsLawful (first_front opening)
  pub none : (keeping.kept old.keeper).header ≡ None
  pub header : HasHeader (keeping.kept new.keeper) opening
  pub entries : (keeping.kept new.keeper).entries ≡ (keeping.kept old.keeper).entries

-- | a keeper holds what it held; or the call that was to put its header failed, and put it all the same
abbrev pub StaysKept : {Link Seat K : Type 0} → Keeping K → World Link Seat K → World Link Seat K → Fault → Type 0
StaysKept keeping old new f =
    (keeping.kept new.keeper ≡ keeping.kept old.keeper) ⊎ (((f ≡ fault.Keeper None) ⊎ (f ≡ fault.Memory)) × HasPut keeping old new)

-- | no identity was opened, for this fault; nothing was read of the input, nothing written, and nothing served
pub record Stopped {Link Seat K : Type 0} (keeping : Keeping K) (old new : World Link Seat K) (f : Fault) : Type 0 where
  pub stops : Stops keeping old new f
  pub file : OnlyReads (f ≡ fault.Read) old.file new.file
  pub reach : (told : List ℕ) → old.file.left ≡ Some told → ReadsFile told new.file.left
  pub folder : OnlyLooks (f ≡ fault.Folder) old.dir new.dir
  pub keeper : Counts (f ≡ fault.Keeper None) (keeping.faults old.keeper) (keeping.faults new.keeper)
  pub since : keeping.whole new.keeper → keeping.whole old.keeper
  pub kept : keeping.whole new.keeper → StaysKept keeping old new f
  pub others : new ≡ record old { file = new.file; dir = new.dir; desk = new.desk; keeper = new.keeper }

-- | an identity was opened and then this was done, and the keeper is the one beside it; or none was
abbrev pub OpensThen : {Link Seat K : Type 0} → Keeping K → (Front → DeskState Link → BookedState K → Type 0) → World Link Seat K → World Link Seat K → Option Fault → Option (BookedState K) → Type 0
OpensThen keeping Done old new (Some f) None = Stopped keeping old new f
OpensThen keeping Done old new None None = ⊥
OpensThen keeping Done old new f (Some state) = (new.keeper ≡ state.keeper) × Opened keeping (λ first desk. Done first desk state) old new

-- | there was no memory to serve: the identity is as it began, and nothing was read, written or served
pub record HadNoRoom {Link Seat K : Type 0} (keeping : Keeping K) (old new : World Link Seat K) (first : Front) (opened : DeskState Link) (f : Option Fault) (state : BookedState K) : Type 0 where
  pub memory : f ≡ Some fault.Memory
  pub stands : StandsBooked keeping state first
  pub desk : new.desk ≡ opened
  pub others : new ≡ record old { file = new.file; dir = new.dir; desk = new.desk; keeper = new.keeper }
