-- How an identity is opened with an opening, with a file for the first time, and with a header once more.
use Rattle.std.proofs.Common.{◌≡◌, ◌⊎◌, inl, inr, ℕ, List, Option, Some, Ok, refl, sym, ap, subst}
use Rattle.ks_base.specs.declared.key.Key.{Key}
use Rattle.ks_entries.specs.declared.header.Header.{Header}
use Rattle.ks_keep.specs.Books.{HasHeader}
use Rattle.ks_keeper.specs.Keeper.{Keeping, Kept}
use Rattle.ks_machine.specs.declared.settings.OpenFault.{OpenFault}
use Rattle.ks_machine.specs.declared.settings.OpenFault.TheVariants as state
use Rattle.ks_machine.specs.Fronts.{first_front}
use Rattle.ks_machine.specs.Lawful.{IsLawful}
use Rattle.ks_machine.specs.Opened.{open_fault}
use Rattle.ks_machine.specs.Openings.{PlainOpening}
use Rattle.ks_outside.specs.Desks.{DeskState}
use Rattle.ks_outside.specs.Files.{DirState}
use Rattle.ks_outside.specs.Streams.{StreamState}
use Rattle.ks_policy.specs.declared.opening.Opening.{Opening}
use Rattle.ks_policy.specs.Openings.{plain}
use Rattle.ks_setup.specs.Headers.{GivesOpening, IsHeaderOf}
use Rattle.ks_setup.specs.Openings.{AnswersOpening, Drew, Opens}
use Rattle.ks_written.specs.Written.{folder_wanted}
use Rattle.ks_top.specs.declared.begun.Start.{Start}
use Rattle.ks_commands.specs.declared.fault.Fault.{Fault}
use Rattle.ks_commands.specs.declared.fault.Fault.TheVariants as fault
use Rattle.ks_commands.specs.Opened.{AreHeld, IsOpening, StopsOpening}
use Rattle.ks_top.specs.steps.Beginnings.{HasNewHeader, IsHeaderFault, IsHeaderFor, IsStart, RefusesStart, StartsAgain, StartsAnew, StaysAnew, opening_of}
use Rattle.ks_commands.specs.steps.Openings.{IsRead, IsReadFault, of_state}
use Rattle.ks_commands.proofs.OpeningLemmas.{is_opening}

-- an opening is refused, or there was no memory

told_fault : (refused : Option OpenFault) (why : OpenFault) → (why ≡ state.Memory → ⊥) → (why ≡ state.Memory) ⊎ (refused ≡ Some why) → refused ≡ Some why
told_fault refused why other (inl memory) = absurd (other memory)
told_fault refused why other (inr is) = is

refuses : (opening : PlainOpening) (why : OpenFault) → (why ≡ state.Memory → ⊥) → (why ≡ state.Memory) ⊎ (open_fault opening ≡ Some why) → RefusesStart opening (fault.State why)
refuses opening why other told = inr (why, refl, other, told_fault (open_fault opening) why other told)

pub refuses_start : (opening : PlainOpening) (why : OpenFault) → (why ≡ state.Memory) ⊎ (open_fault opening ≡ Some why) → RefusesStart opening (of_state why)
refuses_start opening state.Memory told = inl refl
refuses_start opening (state.IdRepeated kind id) told = refuses opening (state.IdRepeated kind id) (λ e. cc e) told
refuses_start opening (state.Name kind id) told = refuses opening (state.Name kind id) (λ e. cc e) told
refuses_start opening (state.Absent kind id) told = refuses opening (state.Absent kind id) (λ e. cc e) told
refuses_start opening (state.TooDeep id) told = refuses opening (state.TooDeep id) (λ e. cc e) told
refuses_start opening (state.DisabledAbove id) told = refuses opening (state.DisabledAbove id) (λ e. cc e) told
refuses_start opening (state.Prohibited id) told = refuses opening (state.Prohibited id) (λ e. cc e) told
refuses_start opening (state.Full kind) told = refuses opening (state.Full kind) (λ e. cc e) told
refuses_start opening (state.Ring reason) told = refuses opening (state.Ring reason) (λ e. cc e) told

-- the file could not be read

pub read_early : (f : Fault) → IsReadFault f → (f ≡ fault.Read) ⊎ (f ≡ fault.Memory)
read_early fault.Read is = inl refl
read_early fault.Memory is = inr refl
read_early fault.Usage is = absurd is
read_early fault.BadPassword is = absurd is
read_early fault.Write is = absurd is
read_early (fault.BadLine n) is = absurd is
read_early fault.Folder is = absurd is
read_early (fault.Keys reason) is = absurd is
read_early fault.Desk is = absurd is
read_early (fault.Opening reason) is = absurd is
read_early (fault.State reason) is = absurd is
read_early (fault.Keeper why) is = absurd is
read_early fault.OtherOpening is = absurd is
read_early (fault.BadEntry n) is = absurd is

has_header : (old new : Kept) (header : Header) (opening : PlainOpening) → HasNewHeader old new header → GivesOpening header opening → HasHeader new opening
has_header old new header opening (bytes, spelled, put) gives = (bytes, ap (λ (k : Kept). k.header) put, (header, spelled, gives))

same_entries : (old new : Kept) (header : Header) → HasNewHeader old new header → new.entries ≡ old.entries
same_entries old new header (bytes, spelled, put) = ap (λ (k : Kept). k.entries) put

-- an identity is opened with a file

pub starts_anew : {Link K : Type 0} (keeping : Keeping K) (text : List ℕ) (held : List (ℕ × Key)) (dir : DirState) (old new : DeskState Link) (before after : K) (opening : Opening) (header : Header) (start : Start)
    → AreHeld (folder_wanted text) dir held → AnswersOpening text held old new (Ok opening) → IsHeaderOf text held old new (plain opening) header
    → IsStart start → plain start.opening.value ≡ plain opening → (keeping.whole after → HasNewHeader (keeping.kept before) (keeping.kept after) header)
    → StartsAnew keeping text dir old new before after start
starts_anew keeping text held dir old new before after opening header start are answers is_header is_start same put = record {
  held = held;
  drawn = answers.0;
  are_held = are;
  opens = subst (λ (o : PlainOpening). Opens text held answers.0 o) (sym same) answers.1;
  drew = answers.2;
  is_start = is_start;
  header = λ whole.
      has_header (keeping.kept before) (keeping.kept after) header (opening_of start) (put whole)
      (subst (λ (o : PlainOpening). GivesOpening header o) (sym same) is_header.gives);
  entries = λ whole. same_entries (keeping.kept before) (keeping.kept after) header (put whole);
}

-- or its header is put, and that fails

pub stays_anew : {Link K : Type 0} (keeping : Keeping K) (text : List ℕ) (held : List (ℕ × Key)) (dir : DirState) (old new : DeskState Link) (before after : K) (opening : Opening) (header : Header) (start : Start) (f : Fault)
    → AreHeld (folder_wanted text) dir held → AnswersOpening text held old new (Ok opening) → IsHeaderOf text held old new (plain opening) header
    → IsStart start → plain start.opening.value ≡ plain opening → IsHeaderFault f
    → (keeping.kept after ≡ keeping.kept before) ⊎ HasNewHeader (keeping.kept before) (keeping.kept after) header
    → StaysAnew keeping text dir old new before after f
stays_anew keeping text held dir old new before after opening header start f are answers is_header is_start same causes (inl kept) = inl kept
stays_anew keeping text held dir old new before after opening header start f are answers is_header is_start same causes (inr put) = inr (
  causes,
  record {
    opening = plain opening;
    held = held;
    drawn = answers.0;
    are_held = are;
    opens = answers.1;
    drew = answers.2;
    lawful = subst (λ (o : PlainOpening). IsLawful (first_front o)) same is_start.stands.stands.lawful;
    header = has_header (keeping.kept before) (keeping.kept after) header (plain opening) put is_header.gives;
    entries = same_entries (keeping.kept before) (keeping.kept after) header put;
  },
)

pub anew_opening : {Link K : Type 0} (keeping : Keeping K) (file : StreamState) (text : List ℕ) (dir : DirState) (old new : DeskState Link) (before after : K) (start : Start)
    → IsRead file text → StartsAnew keeping text dir old new before after start → IsOpening file dir old new (opening_of start)
anew_opening keeping file text dir old new before after start read starts =
    is_opening file dir old new text starts.held starts.drawn (opening_of start) read starts.are_held starts.opens starts.drew

-- and with a header
pub starts_again : (text bytes : List ℕ) (header : Header) (start : Start) (opening : PlainOpening) → IsHeaderFor text bytes header → GivesOpening header opening
    → IsStart start → plain start.opening.value ≡ opening → StartsAgain text bytes start
starts_again text bytes header start opening found gives is_start same = record {
  header = header;
  is_header = found;
  gives = subst (λ (o : PlainOpening). GivesOpening header o) (sym same) gives;
  is_start = is_start;
}

-- it is not, since what the file says is refused

pub start_stops : {Link : Type 0} (file : StreamState) (dir : DirState) (old new : DeskState Link) (opening : PlainOpening) (f : Fault)
    → IsOpening file dir old new opening → RefusesStart opening f → StopsOpening file dir old new f
start_stops file dir old new opening f opened (inl is) = subst (λ g. StopsOpening file dir old new g) (sym is) (opened.drawn, opened.drew)
start_stops file dir old new opening f opened (inr (reason, is, other, refused)) =
    subst (λ g. StopsOpening file dir old new g) (sym is) (other, record { opening = opening; opened = opened; refused = refused })

-- the header could not be put, and the desk gave the salts
pub unput_stops : {Link : Type 0} (file : StreamState) (dir : DirState) (old new : DeskState Link) (f : Fault) (drawn : List ℕ) → Drew old new drawn 0 → IsHeaderFault f
    → StopsOpening file dir old new f
unput_stops file dir old new f drawn drew (inl is) = subst (StopsOpening file dir old new) (sym is) (drawn, drew)
unput_stops file dir old new f drawn drew (inr is) = subst (StopsOpening file dir old new) (sym is) (drawn, drew)
