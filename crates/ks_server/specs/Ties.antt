-- What ties exchanges to the desk and the folder of a worker: the receipts that were noted, and what was read and drawn for them.
use Rattle.std.specs.Prelude.{◌≡◌, ℕ, ◌+◌, ◌-◌, ◌^◌, ◌≤◌, min, Bool, true, false, List, [], ◌∷◌, ◌++◌, Some, Ok, Err, count_by, flat_map, replicate}
use Rattle.std.specs.List.{AllByRecursion}
use Rattle.ks_base.specs.declared.faults.KeysFault.TheVariants as keys
use Rattle.ks_base.specs.declared.receipt.Drawn.{Drawn}
use Rattle.ks_base.specs.declared.receipt.Drawn.TheVariants.{Unused, Bytes, Failed}
use Rattle.ks_base.specs.declared.receipt.Receipt.{Receipt}
use Rattle.ks_http.specs.declared.request.Request.{Request}
use Rattle.ks_keyfiles.specs.Folders.{ReadsAs, folder_of}
use Rattle.ks_machine.specs.declared.call.Call.{Call}
use Rattle.ks_machine.specs.declared.call.FolderRead.{FolderRead}
use Rattle.ks_machine.specs.declared.call.FolderRead.TheVariants as folder
use Rattle.ks_machine.specs.declared.cause.Cause.TheVariants as cause
use Rattle.ks_machine.specs.declared.command.Command.{Command}
use Rattle.ks_machine.specs.Actions.{requirements}
use Rattle.ks_machine.specs.Fit.{IsDraw, IsFolder}
use Rattle.ks_machine.specs.Outcomes.{bytes_in}
use Rattle.ks_outside.specs.declared.desk_call.DeskCall.{DeskCall}
use Rattle.ks_outside.specs.declared.desk_call.DeskCall.TheVariants as desk_call
use Rattle.ks_outside.specs.Desks.{DeskState, Makes, later_readings, next_reading}
use Rattle.ks_outside.specs.Files.{DirState, KeyFile}
use Rattle.ks_routes.specs.declared.routed.Routed.{Routed}
use Rattle.ks_routes.specs.declared.routed.Routed.TheVariants as routed
use Rattle.ks_routes.specs.Routes.{command_of}
use Rattle.ks_server.specs.Exchanges.{Asked, calls, refused, Exchange, receipts_of}

-- what a request asks

-- 64 bytes were drawn exactly for a command that draws, or the draw failed
abbrev pub IsDrawOf : Bool → Drawn → Type 0
IsDrawOf true drawn = IsDraw drawn
IsDrawOf false drawn = drawn ≡ Unused

-- the folder was read exactly for a command that loads its keys
abbrev pub IsReadFor : Bool → FolderRead → Type 0
IsReadFor true read = IsFolder read
IsReadFor false read = read ≡ folder.Unused

-- the folder failed
abbrev pub is_fault : FolderRead → Bool
is_fault folder.Unused = false
is_fault (folder.Keys found) = false
is_fault (folder.Fault keys.Failed) = true
is_fault (folder.Fault keys.NoKeys) = false
is_fault (folder.Fault (keys.BadKey index)) = false
is_fault (folder.Fault keys.TooMany) = false
is_fault (folder.Fault keys.AlreadySet) = false
is_fault (folder.Fault keys.IndexEnd) = false
is_fault (folder.Fault keys.Memory) = false

-- | the call of a command: with the tokens of its request, and with what was drawn and read for it
pub record IsCallOf (what : Command) (request : Request) (call : Call) (receipt : Receipt) : Type 0 where
  pub command : call.command ≡ what
  pub caller : call.caller ≡ request.auth
  pub subject : call.subject ≡ request.subject
  pub draw : call.draw ≡ receipt.draw
  pub drawn : IsDrawOf (requirements what).draws receipt.draw
  pub read : IsReadFor (requirements what).loads call.folder
  pub failed : receipt.folder ≡ is_fault call.folder

-- for a request that is no command nothing is drawn or read, and there is memory
pub record IsPlain (receipt : Receipt) : Type 0 where
  pub draw : receipt.draw ≡ Unused
  pub folder : receipt.folder ≡ false
  pub memory : receipt.memory ≡ false

-- | what a request asks, by where its route leads: the call has the command to which it is routed, its tokens, and what was drawn and read
-- for it; or it is refused for the cause that its route has (Identity API v3)
abbrev pub Asks : Routed → Request → Asked → Receipt → Type 0
Asks (routed.Command what) request (calls call) receipt = IsCallOf what request call receipt
Asks (routed.Command what) request (refused why) receipt = ⊥
Asks (routed.Refused fault) request (calls call) receipt = ⊥
Asks (routed.Refused fault) request (refused why) receipt = (why ≡ cause.Shape fault) × IsPlain receipt
Asks routed.NoRoute request (calls call) receipt = ⊥
Asks routed.NoRoute request (refused why) receipt = (why ≡ cause.NoRoute) × IsPlain receipt
Asks (routed.NoMethod methods) request (calls call) receipt = ⊥
Asks (routed.NoMethod methods) request (refused why) receipt = (why ≡ cause.NoMethod methods) × IsPlain receipt
Asks routed.Memory request asked receipt = ⊥

abbrev pub IsAsked : Exchange → Type 0
IsAsked x = Asks (command_of x.request) x.request x.asked x.receipt

-- | each exchange of these is one of the link, numbered from this on
abbrev pub AreNumbered : ℕ → ℕ → List Exchange → Type 0
AreNumbered connection number [] = Unit {0}
AreNumbered connection number (x ∷ xs) =
    (x.receipt.connection ≡ connection) × (x.receipt.request ≡ number) × AreNumbered connection (number + 1) xs

-- what a desk gave

-- | the readings of the clock: one for each call, in their order, and none is left out
abbrev pub HasReading : Asked → List ℕ → Type 0
HasReading (calls call) readings = call.reading ≡ next_reading readings
HasReading (refused why) readings = Unit {0}

abbrev pub readings_after : Asked → List ℕ → List ℕ
readings_after (calls call) readings = later_readings readings
readings_after (refused why) readings = readings

abbrev pub HaveReadings : List ℕ → List Exchange → List ℕ → Type 0
HaveReadings readings [] rest = readings ≡ rest
HaveReadings readings (x ∷ xs) rest = HasReading x.asked readings × HaveReadings (readings_after x.asked readings) xs rest

-- | the random bytes, in order
abbrev pub drawn_by : List Exchange → List ℕ
drawn_by xs = flat_map (λ x. bytes_in x.receipt.draw) xs

-- how many draws, and how many readings of the folder, these exchanges say failed
abbrev pub is_failed_draw : Drawn → Bool
is_failed_draw Unused = false
is_failed_draw (Bytes bytes) = false
is_failed_draw Failed = true

abbrev pub failed_draws : List Exchange → ℕ
failed_draws xs = count_by (λ x. is_failed_draw x.receipt.draw) xs

abbrev pub failed_folders : List Exchange → ℕ
failed_folders xs = count_by (λ x. x.receipt.folder) xs

-- a count of faults rose so many times at least; at the end of its type it stands still
pub record Rises (times before after : ℕ) : Type 0 where
  pub kept : before ≤ after
  pub rose : min (before + times) (2 ^ 64 - 1) ≤ after

-- what was read of a folder with these files is their keys or their fault, unless the folder failed
abbrev pub IsReadFrom : List KeyFile → FolderRead → Type 0
IsReadFrom files folder.Unused = Unit {0}
IsReadFrom files (folder.Keys found) = ReadsAs (folder_of files) (Ok found)
IsReadFrom files (folder.Fault fault) = ReadsAs (folder_of files) (Err fault)

abbrev pub HasFolder : List KeyFile → Asked → Type 0
HasFolder files (calls call) = IsReadFrom files call.folder
HasFolder files (refused why) = Unit {0}

-- the order of its calls

-- the one fill of a command that draws, also where it failed
abbrev pub fills_for : Drawn → List DeskCall
fills_for Unused = []
fills_for (Bytes bytes) = desk_call.Fill 64 ∷ []
fills_for Failed = desk_call.Fill 64 ∷ []

-- | what is asked of a desk for a decision; nothing is for a request that is refused before any call
abbrev pub calls_for : Asked → Drawn → List DeskCall
calls_for (calls call) drawn = desk_call.Reading ∷ fills_for drawn
calls_for (refused why) drawn = []

-- | the room for the receipt first, then what the decision takes, and the receipt last
abbrev pub calls_in : Exchange → List DeskCall
calls_in x = desk_call.Ready ∷ (calls_for x.asked x.receipt.draw ++ desk_call.Note ∷ [])

-- so many requests for which there was no memory: room for a receipt was asked for, and no more
abbrev pub given_up : ℕ → List DeskCall
given_up count = replicate count desk_call.Ready

-- | the calls in these exchanges one after the other, and those of requests without one before each and behind the last
abbrev pub AreCallsIn : List Exchange → List DeskCall → Type 0
AreCallsIn [] called = (count : ℕ) × (called ≡ given_up count)
AreCallsIn (x ∷ xs) called =
    (count : ℕ) × (rest : List DeskCall) × (called ≡ given_up count ++ (calls_in x ++ rest)) × AreCallsIn xs rest

-- | from one state of a desk and its folder to another these exchanges were made: their receipts were noted and no others, they have all
-- that was drawn and read, the desk was called for them in their order, and what they say failed, failed
pub record Tied {Link : Type 0} (old new : DeskState Link) (old_dir new_dir : DirState) (xs : List Exchange) : Type 0 where
  -- each asks what its request says
  pub asked : AllByRecursion IsAsked xs
  -- their receipts were noted, in order, and no others
  pub receipts : (before : List Receipt) → old.receipts ≡ Some before → new.receipts ≡ Some (before ++ receipts_of xs)
  -- they have all the bytes and all the readings that the desk gave
  pub draws : (bytes : List ℕ) → old.random ≡ Some bytes → (rest : List ℕ) × (bytes ≡ drawn_by xs ++ rest) × (new.random ≡ Some rest)
  pub readings : (given : List ℕ) → old.readings ≡ Some given → (rest : List ℕ) × HaveReadings given xs rest × (new.readings ≡ Some rest)
  -- the desk was called for them in this order
  pub called : List DeskCall
  pub in_turn : AreCallsIn xs called
  pub calls : Makes called old.calls new.calls
  -- what they say failed, failed
  pub failed_draws : Rises (failed_draws xs) old.fill_faults new.fill_faults
  pub failed_folders : Rises (failed_folders xs) old_dir.faults new_dir.faults
  -- they have what the folder holds, which stays
  pub folder : (files : List KeyFile) → old_dir.files ≡ Some files → AllByRecursion (λ x. HasFolder files x.asked) xs
  pub files : new_dir.files ≡ old_dir.files

-- what a desk has of links stays
pub record KeepsLinks {Link : Type 0} (old new : DeskState Link) : Type 0 where
  pub coming : new.coming ≡ old.coming
  pub returned : new.returned ≡ old.returned
  pub room : new.link_room ≡ old.link_room
  pub accept_faults : new.accept_faults ≡ old.accept_faults
