-- How a server begins, or why it does not, and what of that is seen at the end of its run.
use Rattle.std.proofs.Common.{◌≡◌, ◌≢◌, ◌⊎◌, inl, inr, ⊎_elim, ℕ, ◌<◌, ◌≤◌, List, [], ◌++◌, length, Some, None, Result, Ok, Err, refl, sym, ap, ◌∙◌, subst, arith}
use Rattle.std.specs.declared.snapshot.Snapshot.{Snapshot}
use Rattle.ks_base.specs.declared.limits.TheConstants.{OPENING_BYTES}
use Rattle.ks_entries.specs.declared.header.Header.{Header}
use Rattle.ks_entries.specs.Headers.{IsHeader}
use Rattle.ks_keep.specs.declared.fault.NotRead.{NotRead}
use Rattle.ks_keep.specs.declared.fault.NotRead.TheVariants as not_read
use Rattle.ks_keep.specs.Books.{AreKept, HasHeader, IsBookOf}
use Rattle.ks_keep.specs.Pasts.{entries_of}
use Rattle.ks_keep.specs.Restored.{AreNotRedone, IsBadEntry}
use Rattle.ks_keeper.specs.declared.fault.KeepFault.{KeepFault}
use Rattle.ks_keeper.specs.declared.fault.KeepFault.TheVariants as keep_fault
use Rattle.ks_keeper.specs.Keeper.{IsTidy, Keeping, Kept}
use Rattle.ks_machine.specs.Fronts.{Front, first_front}
use Rattle.ks_machine.specs.Openings.{PlainOpening}
use Rattle.ks_outside.specs.Desks.{DeskState}
use Rattle.ks_outside.specs.Files.{OnlyLooks}
use Rattle.ks_outside.specs.Streams.{OnlyReads, StreamState}
use Rattle.ks_policy.specs.declared.fault.PolicyFault.{PolicyFault}
use Rattle.ks_policy.specs.declared.fault.PolicyFault.TheVariants as policy
use Rattle.ks_policy.specs.declared.opening.Opening.{Opening}
use Rattle.ks_policy.specs.Openings.{plain}
use Rattle.ks_setup.specs.declared.opening.OpeningFault.{OpeningFault}
use Rattle.ks_setup.specs.declared.opening.OpeningFault.TheVariants as refusal
use Rattle.ks_setup.specs.Headers.{AnswersHeader}
use Rattle.ks_setup.specs.Openings.{IsFormed}
use Rattle.ks_written.specs.Written.{file_of}
use Rattle.ks_state.specs.Restoring.{last_moment_in, restored_front}
use Rattle.ks_state.specs.Standing.{StandsWithAllKept}
use Rattle.ks_top.specs.declared.begun.Start.{Start}
use Rattle.ks_commands.specs.declared.fault.Fault.{Fault}
use Rattle.ks_commands.specs.declared.fault.Fault.TheVariants as fault
use Rattle.ks_top.specs.declared.opened.NotOpened.{NotOpened}
use Rattle.ks_top.specs.declared.opened.OpenIdentity.{OpenIdentity}
use Rattle.ks_top.specs.Identities.{Begins, StaysKept, Stopped, Stops}
use Rattle.ks_top.specs.Identities as stop
use Rattle.ks_commands.specs.Opened.{IsGiven, IsOther, IsText, ReadsFile}
use Rattle.ks_top.specs.World.{World}
use Rattle.ks_top.specs.steps.Beginnings.{BegunAgain, BegunAnew, DidNotGoOn, GoesOnFrom, IsHeaderFor, IsOpenedAt, OpensAt, StartsAgain, StaysAnew, StopsAgain, WentOn, bad_opening, bad_state, front_of, no_memory, of_other, opening_of}
use Rattle.ks_commands.specs.steps.Openings.{IsRead, of_header, of_keeper, of_unread}
use Rattle.ks_commands.proofs.CountLemmas.{counts_for, counts_later, counts_none, looks_for, looks_none, reads_for, reads_none}
use Rattle.ks_commands.proofs.OpeningLemmas.{formed_text, is_opening, longer, reached_none, refuses_form}

-- how a server began is seen at the end of its run too, where its keeper is whole all along, and its folder was left alone since

pub given_later : {K : Type 0} (keeping : Keeping K) (file : StreamState) (old mid end : K) (header : Header) → (keeping.whole end → keeping.whole mid)
    → IsGiven keeping file old mid header → IsGiven keeping file old end header
given_later keeping file old mid end header since given = record { is_text = given.is_text; told = λ whole. given.told (since whole) }

pub begins_later : {Link Seat K : Type 0} (keeping : Keeping K) (old mid end : World Link Seat K) (desk : DeskState Link) (first : Front)
    → (keeping.whole end.keeper → keeping.whole mid.keeper) → end.dir ≡ mid.dir → Begins keeping old mid desk first → Begins keeping old end desk first
begins_later keeping old mid end desk first since dir (inl began) = inl (record {
  opening = began.opening;
  opened = began.opened;
  is_first = began.is_first;
  no_header = λ whole. began.no_header (since whole);
})
begins_later keeping old mid end desk first since dir (inr goes) = inr (record {
  header = goes.header;
  opening = goes.opening;
  entries = goes.entries;
  given = given_later keeping old.file old.keeper mid.keeper end.keeper goes.header since goes.given;
  gives = goes.gives;
  all = λ whole. goes.all (since whole);
  is_first = goes.is_first;
  same_desk = goes.same_desk;
  folder = dir ∙ goes.folder;
})

-- a keeper with a new header is a book of the opening that it gives

pub first_book : (old new : Kept) (opening : PlainOpening) → IsTidy old → old.header ≡ None → new.entries ≡ old.entries → HasHeader new opening
    → IsBookOf new (first_front opening)
first_book old new opening tidy none same header = record {
  header = header;
  count = 0;
  least = omega arith;
  most = omega arith;
  stand = tt;
  none = λ number least. ap (λ entries. entries number) same ∙ tidy.header none number;
}

-- where no identity was opened, the keeper holds what it held, or its header was put all the same
pub anew_stays : {Link Seat K : Type 0} (keeping : Keeping K) (old new : World Link Seat K) (mid : K) (text : List ℕ) (f : Fault) → IsRead old.file text
    → (keeping.kept old.keeper).header ≡ None → keeping.kept mid ≡ keeping.kept old.keeper
    → StaysAnew keeping text old.dir old.desk new.desk mid new.keeper f → StaysKept keeping old new f
anew_stays keeping old new mid text f read none same (inl kept) = inl (kept ∙ same)
anew_stays keeping old new mid text f read none same (inr (causes, put)) = inr (
  causes,
  record {
    opening = put.opening;
    opened = is_opening old.file old.dir old.desk new.desk text put.held put.drawn put.opening read put.are_held put.opens put.drew;
    lawful = put.lawful;
    none = none;
    header = put.header;
    entries = put.entries ∙ ap (λ (k : Kept). k.entries) same;
  },
)

-- what a header gives is refused, or it is another file's

-- a header is of a file whose form is right, where more than its form is refused
formed_header : (header : Header) (reason : PolicyFault) → AnswersHeader header (Err (refusal.Policy reason)) → IsFormed header.opening
formed_header header policy.Memory answers = absurd answers
formed_header header policy.NotObject answers = answers.0
formed_header header (policy.NotText name) answers = answers.0
formed_header header (policy.Cycle name) answers = answers.0
formed_header header policy.TooMany answers = answers.0

header_text : (file : StreamState) (text : List ℕ) (header : Header) → IsRead file text → header.opening ≡ text → IsFormed header.opening → IsText header.opening file
header_text file text header read same formed =
    subst (λ t. IsText t file) (sym same) (formed_text file text formed.0 read (subst (λ t. file_of t ≡ Ok formed.0) same formed.1))

is_given : {K : Type 0} (keeping : Keeping K) (file : StreamState) (old new : K) (text bytes : List ℕ) (header : Header) → IsRead file text
    → (keeping.whole new → (keeping.kept old).header ≡ Some bytes) → IsHeaderFor text bytes header → IsFormed header.opening → IsGiven keeping file old new header
is_given keeping file old new text bytes header read told found formed = record {
  is_text = header_text file text header read found.same formed;
  told = λ whole. (bytes, told whole, found.spelled);
}

is_other : {K : Type 0} (keeping : Keeping K) (file : StreamState) (old new : K) (text bytes : List ℕ) → IsRead file text
    → (keeping.whole new → (keeping.kept old).header ≡ Some bytes) → ((header : Header) → IsHeader bytes header → header.opening ≢ text)
    → IsOther keeping file old new
is_other keeping file old new text bytes read told none = record {
  bytes = bytes;
  told = told;
  other = λ whole left short header spelled same.
      ⊎_elim (λ is. none header spelled (same ∙ is))
      (λ (more : (OPENING_BYTES < length text) × ((rest : List ℕ) × (whole ≡ text ++ rest))). let long = longer whole text more.1.0 more.1.1 more.0 in omega (arith, long, short))
      (read whole left);
}

stops_given : {Link Seat K : Type 0} (keeping : Keeping K) (old new : World Link Seat K) (text bytes : List ℕ) (header : Header) (reason : OpeningFault)
    → IsRead old.file text → (keeping.whole new.keeper → (keeping.kept old.keeper).header ≡ Some bytes) → new.desk ≡ old.desk → new.dir ≡ old.dir
    → IsHeaderFor text bytes header → AnswersHeader header (Err reason) → Stops keeping old new (of_header reason)
stops_given keeping old new text bytes header (refusal.Shape reason) read told desk dir found answers =
    stop.unformed reason (refuses_form old.file text reason read (subst (λ t. file_of t ≡ Err reason) found.same answers)) desk
stops_given keeping old new text bytes header (refusal.Policy reason) read told desk dir found answers = stop.given (fault.Opening (refusal.Policy reason)) (record {
  header = header;
  given = is_given keeping old.file old.keeper new.keeper text bytes header read told found (formed_header header reason answers);
  stops = answers;
  desk = desk;
  folder = dir;
})
stops_given keeping old new text bytes header (refusal.BadKey path) read told desk dir found answers = stop.given (fault.Opening (refusal.BadKey path)) (record {
  header = header;
  given = is_given keeping old.file old.keeper new.keeper text bytes header read told found answers.0.0;
  stops = answers;
  desk = desk;
  folder = dir;
})
stops_given keeping old new text bytes header refusal.Random read told desk dir found answers = stop.given fault.OtherOpening (record {
  header = header;
  given = is_given keeping old.file old.keeper new.keeper text bytes header read told found answers.0.0;
  stops = answers;
  desk = desk;
  folder = dir;
})
stops_given keeping old new text bytes header refusal.Memory read told desk dir found answers = stop.early fault.Memory desk (inr refl)

pub again_stops : {Link Seat K : Type 0} (keeping : Keeping K) (old new : World Link Seat K) (text bytes : List ℕ) (f : Fault)
    → IsRead old.file text → (keeping.whole new.keeper → (keeping.kept old.keeper).header ≡ Some bytes) → new.desk ≡ old.desk → new.dir ≡ old.dir
    → StopsAgain text bytes f → Stops keeping old new f
again_stops keeping old new text bytes f read told desk dir (no_memory is) = stop.early f desk (inr is)
again_stops keeping old new text bytes f read told desk dir (of_other none is) =
    subst (λ g. Stops keeping old new g) (sym is) (stop.other (is_other keeping old.file old.keeper new.keeper text bytes read told none) desk)
again_stops keeping old new text bytes f read told desk dir (bad_opening header reason found answers is) =
    subst (λ g. Stops keeping old new g) (sym is) (stops_given keeping old new text bytes header reason read told desk dir found answers)
again_stops keeping old new text bytes f read told desk dir (bad_state header opening found gives (inl is)) = stop.early f desk (inr is)
again_stops keeping old new text bytes f read told desk dir (bad_state header opening found gives (inr (reason, is, other, refused))) =
    subst (λ g. Stops keeping old new g) (sym is) (stop.given (fault.State reason) (record {
      header = header;
      given = is_given keeping old.file old.keeper new.keeper text bytes header read told found (gives.written, gives.form);
      stops = (other, (opening, gives, refused));
      desk = desk;
      folder = dir;
    }))

pub begun_again : {Link Seat K : Type 0} (keeping : Keeping K) (old new : World Link Seat K) (text bytes : List ℕ) (start : Start)
    → IsRead old.file text → (keeping.whole new.keeper → (keeping.kept old.keeper).header ≡ Some bytes)
    → (keeping.whole new.keeper → keeping.kept new.keeper ≡ keeping.kept old.keeper) → new.desk ≡ old.desk → new.dir ≡ old.dir
    → StartsAgain text bytes start → BegunAgain keeping old new start
begun_again keeping old new text bytes start read told same desk dir starts = record {
  header = starts.header;
  given = is_given keeping old.file old.keeper new.keeper text bytes starts.header read told starts.is_header (starts.gives.written, starts.gives.form);
  gives = starts.gives;
  is_start = starts.is_start;
  same = same;
  desk = desk;
  folder = dir;
}

-- the keeper is tidy still, and has the header of what was opened

pub again_tidy : {Link Seat K : Type 0} (keeping : Keeping K) (old mid : World Link Seat K) (start : Start) → BegunAgain keeping old mid start
    → (keeping.whole mid.keeper → keeping.whole old.keeper) → (keeping.whole old.keeper → IsTidy (keeping.kept old.keeper))
    → keeping.whole mid.keeper → IsTidy (keeping.kept mid.keeper)
again_tidy keeping old mid start begun since tidy whole = subst IsTidy (sym (begun.same whole)) (tidy (since whole))

pub held_header : {Link Seat K : Type 0} (keeping : Keeping K) (old mid : World Link Seat K) (start : Start) → BegunAgain keeping old mid start
    → keeping.whole mid.keeper → HasHeader (keeping.kept mid.keeper) (opening_of start)
held_header keeping old mid start begun whole =
    let held = begun.given.told whole in
    (held.0, ap (λ (k : Kept). k.header) (begun.same whole) ∙ held.1, (begun.header, held.2, begun.gives))

-- the header of the keeper could not be read
pub keeper_stops : {Link Seat K : Type 0} (keeping : Keeping K) (old new : World Link Seat K) (why : KeepFault) → new.desk ≡ old.desk → Stops keeping old new (of_keeper why)
keeper_stops keeping old new keep_fault.Failed desk = stop.unread desk
keeper_stops keeping old new keep_fault.Memory desk = stop.early fault.Memory desk (inr refl)

-- what the opened identity is

-- before any change
pub front_anew : (opening : PlainOpening) → first_front opening ≡ restored_front opening []
unfolding last_moment_in
front_anew opening = refl

began_anew : {Link Seat K : Type 0} (keeping : Keeping K) (old new : World Link Seat K) (start : Start) (opened : OpenIdentity K)
    → BegunAnew keeping old new start → opened.identity ≡ start.identity → opened.url ≡ start.url → opened.opening ≡ start.opening → entries_of opened.past ≡ []
    → OnlyReads ⊥ old.file new.file → ((told : List ℕ) → old.file.left ≡ Some told → ReadsFile told new.file.left) → OnlyLooks ⊥ old.dir new.dir
    → keeping.faults old.keeper ≤ keeping.faults new.keeper → (keeping.whole new.keeper → keeping.whole old.keeper)
    → IsOpenedAt keeping old new opened
began_anew keeping old new start opened begun identity url opening past reads reach looks faults since =
    let same : first_front (opening_of start) ≡ front_of opened =
    front_anew (opening_of start)
    ∙ sym (ap (λ (it : Snapshot Opening). restored_front (plain it.value) (entries_of opened.past)) opening ∙ ap (restored_front (opening_of start)) past) in
    let stands : StandsWithAllKept opened.identity (front_of opened) =
    subst (λ f. StandsWithAllKept opened.identity f) same
    (subst (λ it. StandsWithAllKept it (first_front (opening_of start))) (sym identity) begun.is_start.stands) in
    record {
      begins = inl (record { opening = opening_of start; opened = begun.opened; is_first = sym same; no_header = begun.no_header });
      lawful = stands.stands.lawful;
      stands = stands;
      book = λ whole. subst (λ f. IsBookOf (keeping.kept new.keeper) f) same (begun.book whole);
      url = url ∙ begun.is_start.url ∙ ap (λ (f : Front). f.opening.settings.url) same;
      file = reads;
      reach = reach;
      folder = looks;
      keeper = faults;
      since = since;
    }

pub opened_anew : {Link Seat K : Type 0} (keeping : Keeping K) (old mid : World Link Seat K) (start : Start) (opened : OpenIdentity K)
    → BegunAnew keeping old mid start → opened.keeper ≡ mid.keeper
    → opened.identity ≡ start.identity → opened.url ≡ start.url → opened.opening ≡ start.opening → entries_of opened.past ≡ []
    → OnlyReads ⊥ old.file mid.file → ((told : List ℕ) → old.file.left ≡ Some told → ReadsFile told mid.file.left) → OnlyLooks ⊥ old.dir mid.dir
    → keeping.faults old.keeper ≤ keeping.faults mid.keeper → (keeping.whole mid.keeper → keeping.whole old.keeper)
    → IsOpenedAt keeping old (record mid { keeper = opened.keeper }) opened
opened_anew keeping old mid start opened begun keeper identity url opening past reads reach looks faults since =
    subst (λ k. IsOpenedAt keeping old (record mid { keeper = k }) opened) (sym keeper)
    (began_anew keeping old mid start opened begun identity url opening past reads reach looks faults since)

-- with all changes that its keeper holds; in the world in the middle they were not made yet
pub opened_again : {Link Seat K : Type 0} (keeping : Keeping K) (old mid : World Link Seat K) (start : Start) (opened : OpenIdentity K)
    → BegunAgain keeping old mid start → WentOn keeping mid.keeper start opened
    → OnlyReads ⊥ old.file mid.file → ((told : List ℕ) → old.file.left ≡ Some told → ReadsFile told mid.file.left) → OnlyLooks ⊥ old.dir mid.dir
    → keeping.faults old.keeper ≤ keeping.faults mid.keeper → (keeping.whole mid.keeper → keeping.whole old.keeper)
    → IsOpenedAt keeping old (record mid { keeper = opened.keeper }) opened
opened_again keeping old mid start opened begun went reads reach looks faults since =
    let same : restored_front (opening_of start) (entries_of opened.past) ≡ front_of opened =
    ap (λ (it : Snapshot Opening). restored_front (plain it.value) (entries_of opened.past)) (sym went.opening) in
    let stands : StandsWithAllKept opened.identity (front_of opened) = subst (λ f. StandsWithAllKept opened.identity f) same went.redone.stands in
    record {
      begins = inr (record {
        header = begun.header;
        opening = opening_of start;
        entries = entries_of opened.past;
        given = given_later keeping old.file old.keeper mid.keeper opened.keeper begun.header went.redone.keeper.since begun.given;
        gives = begun.gives;
        all = λ whole. subst (λ (k : Kept). AreKept k.entries (entries_of opened.past)) (begun.same (went.redone.keeper.since whole)) (went.redone.are_kept whole);
        is_first = sym same;
        same_desk = begun.desk;
        folder = begun.folder;
      });
      lawful = stands.stands.lawful;
      stands = stands;
      book = λ whole. subst (λ f. IsBookOf (keeping.kept opened.keeper) f) same (went.redone.book whole);
      url = went.url ∙ begun.is_start.url ∙ ap (λ (f : Front). f.opening.settings.url) same;
      file = reads;
      reach = reach;
      folder = looks;
      keeper = omega (arith, faults, went.redone.keeper.faults);
      since = λ whole. since (went.redone.keeper.since whole);
    }

-- a server does not go on, since its keeper failed or holds what is no entry

unread_is : (why : NotRead) → of_unread why ≡ fault.Keeper None → why ≡ not_read.Failed
unread_is not_read.Failed is = refl
unread_is (not_read.BadEntry number) is = absurd (cc is)
unread_is not_read.Memory is = absurd (cc is)

pub unread_outside : (why : NotRead) → (of_unread why ≢ fault.Read) × (of_unread why ≢ fault.Folder)
unread_outside not_read.Failed = (λ e. cc e, λ e. cc e)
unread_outside (not_read.BadEntry number) = (λ e. cc e, λ e. cc e)
unread_outside not_read.Memory = (λ e. cc e, λ e. cc e)

not_redone_stops : {Link Seat K : Type 0} (keeping : Keeping K) (old mid : World Link Seat K) (start : Start) (keeper : K) (why : NotRead) → BegunAgain keeping old mid start
    → AreNotRedone keeping mid.keeper (opening_of start) (record { why = why; keeper = keeper }) → Stops keeping old (record mid { keeper = keeper }) (of_unread why)
not_redone_stops keeping old mid start keeper not_read.Failed begun stops = stop.given (fault.Keeper None) (record {
  header = begun.header;
  given = given_later keeping old.file old.keeper mid.keeper keeper begun.header stops.keeper.since begun.given;
  stops = tt;
  desk = begun.desk;
  folder = begun.folder;
})
not_redone_stops keeping old mid start keeper (not_read.BadEntry number) begun stops = stop.given (fault.BadEntry number) (record {
  header = begun.header;
  given = given_later keeping old.file old.keeper mid.keeper keeper begun.header stops.keeper.since begun.given;
  stops = (opening_of start, begun.gives, λ whole. subst (λ (k : Kept). IsBadEntry k.entries (opening_of start) number) (begun.same (stops.keeper.since whole)) (stops.why whole));
  desk = begun.desk;
  folder = begun.folder;
})
not_redone_stops keeping old mid start keeper not_read.Memory begun stops = stop.early fault.Memory begun.desk (inr refl)

pub stopped_again : {Link Seat K : Type 0} (keeping : Keeping K) (old mid : World Link Seat K) (start : Start) (refused : NotOpened K)
    → BegunAgain keeping old mid start → DidNotGoOn keeping mid.keeper start refused
    → OnlyReads ⊥ old.file mid.file → ((told : List ℕ) → old.file.left ≡ Some told → ReadsFile told mid.file.left) → OnlyLooks ⊥ old.dir mid.dir
    → keeping.faults old.keeper ≤ keeping.faults mid.keeper → (keeping.whole mid.keeper → keeping.whole old.keeper)
    → mid ≡ record old { file = mid.file; dir = mid.dir; desk = mid.desk; keeper = mid.keeper }
    → Stopped keeping old (record mid { keeper = refused.keeper }) refused.fault
stopped_again {Link = Link} {Seat = Seat} {K = K} keeping old mid start refused begun did reads reach looks faults since others =
    let read_keeper = did.not_redone.keeper in
    record {
      stops = subst (λ g. Stops keeping old (record mid { keeper = refused.keeper }) g) (sym did.is_fault) (not_redone_stops keeping old mid start refused.keeper did.why begun did.not_redone);
      file = reads_for ⊥ (refused.fault ≡ fault.Read) old.file mid.file (λ e. (unread_outside did.why).0 (sym did.is_fault ∙ e)) reads;
      reach = reach;
      folder = looks_for ⊥ (refused.fault ≡ fault.Folder) old.dir mid.dir (λ e. (unread_outside did.why).1 (sym did.is_fault ∙ e)) looks;
      keeper = counts_later (refused.fault ≡ fault.Keeper None) (keeping.faults old.keeper) (keeping.faults mid.keeper) (keeping.faults refused.keeper) faults
          (counts_for (did.why ≡ not_read.Failed) (refused.fault ≡ fault.Keeper None) (keeping.faults mid.keeper) (keeping.faults refused.keeper) (λ e. unread_is did.why (sym did.is_fault ∙ e)) did.not_redone.counts);
      since = λ whole. since (read_keeper.since whole);
      kept = λ whole. inl (read_keeper.same whole ∙ begun.same (read_keeper.since whole));
      others = ap (λ (w : World Link Seat K). record w { keeper = refused.keeper }) others;
    }

pub goes_on_at : {Link Seat K : Type 0} (keeping : Keeping K) (old mid : World Link Seat K) (start : Start) (result : Result (OpenIdentity K) (NotOpened K))
    → BegunAgain keeping old mid start → GoesOnFrom keeping mid.keeper start result
    → OnlyReads ⊥ old.file mid.file → ((told : List ℕ) → old.file.left ≡ Some told → ReadsFile told mid.file.left) → OnlyLooks ⊥ old.dir mid.dir
    → keeping.faults old.keeper ≤ keeping.faults mid.keeper → (keeping.whole mid.keeper → keeping.whole old.keeper)
    → mid ≡ record old { file = mid.file; dir = mid.dir; desk = mid.desk; keeper = mid.keeper }
    → OpensAt keeping old mid result
goes_on_at keeping old mid start (Ok opened) begun goes reads reach looks faults since others =
    opened_again keeping old mid start opened begun goes reads reach looks faults since
goes_on_at keeping old mid start (Err refused) begun goes reads reach looks faults since others =
    stopped_again keeping old mid start refused begun goes reads reach looks faults since others

-- a server does not begin

-- nothing was read, since there was no memory
pub stopped_early : {Link Seat K : Type 0} (keeping : Keeping K) (old : World Link Seat K) → Stopped keeping old old fault.Memory
stopped_early keeping old = record {
  stops = stop.early fault.Memory refl (inr refl);
  file = reads_none (fault.Memory ≡ fault.Read) old.file (λ e. cc e);
  reach = λ told left. reached_none told old.file.left left;
  folder = looks_none (fault.Memory ≡ fault.Folder) old.dir (λ e. cc e);
  keeper = counts_none (fault.Memory ≡ fault.Keeper None) (keeping.faults old.keeper) (λ e. cc e);
  since = λ whole. whole;
  kept = λ whole. inl refl;
  others = refl;
}
