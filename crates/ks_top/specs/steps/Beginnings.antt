-- What the steps of beginning say: with an opening or with a header, and then with all that a keeper holds.
use Rattle.std.specs.Prelude.{◌≡◌, ◌≢◌, ◌⊎◌, ℕ, ◌≤◌, List, Some, None, Result, Ok, Err}
use Rattle.ks_base.specs.declared.key.Key.{Key}
use Rattle.ks_entries.specs.declared.header.Header.{Header}
use Rattle.ks_entries.specs.Headers.{IsHeader}
use Rattle.ks_keep.specs.declared.fault.NotRead.{NotRead}
use Rattle.ks_keep.specs.Books.{HasHeader, IsBookOf}
use Rattle.ks_keep.specs.Pasts.{entries_of}
use Rattle.ks_keep.specs.Restored.{AreNotRedone, AreRedone}
use Rattle.ks_keeper.specs.Keeper.{Keeping, Kept, with_header}
use Rattle.ks_machine.specs.declared.settings.OpenFault.{OpenFault}
use Rattle.ks_machine.specs.declared.settings.OpenFault.TheVariants as state
use Rattle.ks_machine.specs.Fronts.{Front, first_front}
use Rattle.ks_machine.specs.Lawful.{IsLawful}
use Rattle.ks_machine.specs.Opened.{open_fault}
use Rattle.ks_machine.specs.Openings.{PlainOpening}
use Rattle.ks_outside.specs.Desks.{DeskState}
use Rattle.ks_outside.specs.Files.{DirState, OnlyLooks}
use Rattle.ks_outside.specs.Streams.{OnlyReads}
use Rattle.ks_policy.specs.Openings.{plain}
use Rattle.ks_setup.specs.declared.opening.OpeningFault.{OpeningFault}
use Rattle.ks_setup.specs.Headers.{AnswersHeader, GivesOpening}
use Rattle.ks_setup.specs.Openings.{Drew, Opens}
use Rattle.ks_written.specs.Written.{folder_wanted}
use Rattle.ks_state.specs.Restoring.{restored_front}
use Rattle.ks_state.specs.Standing.{StandsWithAllKept}
use Rattle.ks_top.specs.declared.begun.Begun.{Begun}
use Rattle.ks_top.specs.declared.begun.Begun.TheVariants as begun
use Rattle.ks_top.specs.declared.begun.Start.{Start}
use Rattle.ks_commands.specs.declared.fault.Fault.{Fault}
use Rattle.ks_commands.specs.declared.fault.Fault.TheVariants as fault
use Rattle.ks_top.specs.declared.opened.NotOpened.{NotOpened}
use Rattle.ks_top.specs.declared.opened.OpenIdentity.{OpenIdentity}
use Rattle.ks_top.specs.Identities.{Begins, HasNoHeader, Stopped}
use Rattle.ks_commands.specs.Opened.{AreHeld, IsGiven, IsOpening, ReadsFile}
use Rattle.ks_top.specs.World.{World}
use Rattle.ks_commands.specs.steps.Openings.{of_header, of_unread}

-- the opening of what was opened
abbrev pub opening_of : Start → PlainOpening
opening_of start = plain start.opening.value

-- an identity stands for an opening before any change, and has its public URL
pub record IsStart (start : Start) : Type 0 where
  pub stands : StandsWithAllKept start.identity (first_front (opening_of start))
  pub url : start.url ≡ (opening_of start).settings.url

-- an opening is refused for this, or there was no memory
abbrev pub RefusesStart : PlainOpening → Fault → Type 0
RefusesStart opening f =
    (f ≡ fault.Memory) ⊎ ((reason : OpenFault) × (f ≡ fault.State reason) × (reason ≢ state.Memory) × (open_fault opening ≡ Some reason))

-- the faults of putting the header of a keeper
abbrev pub IsHeaderFault : Fault → Type 0
IsHeaderFault f = (f ≡ fault.Keeper None) ⊎ (f ≡ fault.Memory)

-- a keeper has this header, and the same entries
abbrev pub HasNewHeader : Kept → Kept → Header → Type 0
HasNewHeader old new header = (bytes : List ℕ) × IsHeader bytes header × (new ≡ with_header bytes old)

-- an identity was opened with a text, with what the folder holds and what a desk gave, and the keeper has the header of that
pub record StartsAnew {Link K : Type 0} (keeping : Keeping K) (text : List ℕ) (dir : DirState) (desk after : DeskState Link) (old new : K) (start : Start) : Type 0 where
  pub held : List (ℕ × Key)
  pub drawn : List ℕ
  pub are_held : AreHeld (folder_wanted text) dir held
  pub opens : Opens text held drawn (opening_of start)
  pub drew : Drew desk after drawn 0
  pub is_start : IsStart start
  pub header : keeping.whole new → HasHeader (keeping.kept new) (opening_of start)
  pub entries : keeping.whole new → (keeping.kept new).entries ≡ (keeping.kept old).entries

-- a keeper has the header of an opening that a text gives, and the same entries
pub record PutsAnew {Link K : Type 0} (keeping : Keeping K) (text : List ℕ) (dir : DirState) (desk after : DeskState Link) (old new : K) : Type 0 where
  pub opening : PlainOpening
  pub held : List (ℕ × Key)
  pub drawn : List ℕ
  pub are_held : AreHeld (folder_wanted text) dir held
  pub opens : Opens text held drawn opening
  pub drew : Drew desk after drawn 0
  pub lawful : IsLawful (first_front opening)
  pub header : HasHeader (keeping.kept new) opening
  pub entries : (keeping.kept new).entries ≡ (keeping.kept old).entries

-- where no identity was opened with a text a keeper holds what it held; or the call that was to put its header failed, and put it
abbrev pub StaysAnew : {Link K : Type 0} → Keeping K → List ℕ → DirState → DeskState Link → DeskState Link → K → K → Fault → Type 0
StaysAnew keeping text dir desk after old new f =
    (keeping.kept new ≡ keeping.kept old) ⊎ (IsHeaderFault f × PutsAnew keeping text dir desk after old new)

-- the bytes are the header of a file of this text
pub record IsHeaderFor (text bytes : List ℕ) (header : Header) : Type 0 where
  pub spelled : IsHeader bytes header
  pub same : header.opening ≡ text

-- an identity was opened with what the bytes of a header give, which are of a file of this text
pub record StartsAgain (text bytes : List ℕ) (start : Start) : Type 0 where
  pub header : Header
  pub is_header : IsHeaderFor text bytes header
  pub gives : GivesOpening header (opening_of start)
  pub is_start : IsStart start

-- why none was: the bytes are no header or one of another text, or what the header gives is refused
pub data StopsAgain (text bytes : List ℕ) (f : Fault) : Type 0 where
  no_memory : f ≡ fault.Memory → StopsAgain text bytes f
  of_other : ((header : Header) → IsHeader bytes header → header.opening ≢ text) → f ≡ fault.OtherOpening → StopsAgain text bytes f
  bad_opening : (header : Header) (reason : OpeningFault) → IsHeaderFor text bytes header → AnswersHeader header (Err reason) → f ≡ of_header reason
      → StopsAgain text bytes f
  bad_state : (header : Header) (opening : PlainOpening) → IsHeaderFor text bytes header → GivesOpening header opening → RefusesStart opening f
      → StopsAgain text bytes f

-- a server began with the opening of its file, which its keeper is a book of now
pub record BegunAnew {Link Seat K : Type 0} (keeping : Keeping K) (old new : World Link Seat K) (start : Start) : Type 0 where
  pub opened : IsOpening old.file old.dir old.desk new.desk (opening_of start)
  pub no_header : HasNoHeader keeping old new
  pub is_start : IsStart start
  pub book : keeping.whole new.keeper → IsBookOf (keeping.kept new.keeper) (first_front (opening_of start))

-- a server began with the opening of the header that its keeper holds. The keeper, the folder and the desk were left alone
pub record BegunAgain {Link Seat K : Type 0} (keeping : Keeping K) (old new : World Link Seat K) (start : Start) : Type 0 where
  pub header : Header
  pub given : IsGiven keeping old.file old.keeper new.keeper header
  pub gives : GivesOpening header (opening_of start)
  pub is_start : IsStart start
  pub same : keeping.whole new.keeper → keeping.kept new.keeper ≡ keeping.kept old.keeper
  pub desk : new.desk ≡ old.desk
  pub folder : new.dir ≡ old.dir

abbrev pub IsBegun : {Link Seat K : Type 0} → Keeping K → World Link Seat K → World Link Seat K → Begun → Type 0
IsBegun keeping old new (begun.Anew start) = BegunAnew keeping old new start
IsBegun keeping old new (begun.Again start) = BegunAgain keeping old new start

-- all changes that a keeper holds were made once more
pub record WentOn {K : Type 0} (keeping : Keeping K) (old : K) (start : Start) (opened : OpenIdentity K) : Type 0 where
  pub redone : AreRedone keeping old (opening_of start) opened.identity opened.keeper opened.past
  pub opening : opened.opening ≡ start.opening
  pub url : opened.url ≡ start.url

-- or why they were not
pub record DidNotGoOn {K : Type 0} (keeping : Keeping K) (old : K) (start : Start) (refused : NotOpened K) : Type 0 where
  pub why : NotRead
  pub not_redone : AreNotRedone keeping old (opening_of start) (record { why = why; keeper = refused.keeper })
  pub is_fault : refused.fault ≡ of_unread why

abbrev pub GoesOnFrom : {K : Type 0} → Keeping K → K → Start → Result (OpenIdentity K) (NotOpened K) → Type 0
GoesOnFrom keeping old start (Ok opened) = WentOn keeping old start opened
GoesOnFrom keeping old start (Err refused) = DidNotGoOn keeping old start refused

-- the front for which an identity was opened: that of its opening with all changes that were kept
abbrev pub front_of : {K : Type 0} → OpenIdentity K → Front
front_of opened = restored_front (plain opened.opening.value) (entries_of opened.past)

-- an identity was opened or restored: it stands for a front with which a server begins, and its keeper is a book of that
pub record IsOpenedAt {Link Seat K : Type 0} (keeping : Keeping K) (old new : World Link Seat K) (opened : OpenIdentity K) : Type 0 where
  pub begins : Begins keeping old new new.desk (front_of opened)
  pub lawful : IsLawful (front_of opened)
  pub stands : StandsWithAllKept opened.identity (front_of opened)
  pub book : keeping.whole new.keeper → IsBookOf (keeping.kept new.keeper) (front_of opened)
  pub url : opened.url ≡ (front_of opened).opening.settings.url
  pub file : OnlyReads ⊥ old.file new.file
  pub reach : (told : List ℕ) → old.file.left ≡ Some told → ReadsFile told new.file.left
  pub folder : OnlyLooks ⊥ old.dir new.dir
  pub keeper : keeping.faults old.keeper ≤ keeping.faults new.keeper
  pub since : keeping.whole new.keeper → keeping.whole old.keeper

-- it was, or none was for a fault; the keeper is the one that came back
abbrev pub OpensAt : {Link Seat K : Type 0} → Keeping K → World Link Seat K → World Link Seat K → Result (OpenIdentity K) (NotOpened K) → Type 0
OpensAt keeping old new (Ok opened) = IsOpenedAt keeping old (record new { keeper = opened.keeper }) opened
OpensAt keeping old new (Err refused) = Stopped keeping old (record new { keeper = refused.keeper }) refused.fault
