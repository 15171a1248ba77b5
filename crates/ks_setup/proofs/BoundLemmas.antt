-- What a file of the right form keeps within bounds: the iteration count and the number of its keys.
use Rattle.std.proofs.Common.{◌≡◌, ℕ, suc, ◌≤◌, Bool, true, false, List, [], ◌∷◌, length, Some, None, Ok, Err, refl, sym, ap, ◌∙◌, subst, arith}
use Rattle.std.specs.Prelude.{Option, Result, codes, nat_le, nat_lt, option_and_then, unwrap_or}
use Rattle.std.specs.Int.{is_in_range}
use Rattle.std.specs.Str.{bytes_eq}
use Rattle.std.proofs.lemmas.Bool.{and_parts, leb-true}
use Rattle.std.proofs.lemmas.Bool.Decides.{nat_tests}
use Rattle.serde_json.specs.Data.{Data, Items, no_items, item}
use Rattle.serde_json.specs.Find.{as_array, as_number, as_u64}
use Rattle.ks_base.specs.declared.shapes.ShapeFault.TheVariants as fault
use Rattle.ks_base.specs.Results.{◌>>=◌, found, need}
use Rattle.ks_machine.specs.declared.settings.Settings.{Settings}
use Rattle.ks_shape.specs.declared.misfit.Misfit.{Misfit}
use Rattle.ks_shape.specs.declared.misfit.Misfit.TheVariants as misfit
use Rattle.ks_shape.specs.Fields.{if_given, judged, needed, needed_value, optional, optional_value}
use Rattle.ks_shape.specs.Places.{Place, entry_at, names, path_at}
use Rattle.ks_shape.specs.Types.{any_text, count_of, list_of, whole}
use Rattle.ks_written.specs.declared.written.KeysFrom.{KeysFrom}
use Rattle.ks_written.specs.declared.written.KeysFrom.TheVariants.{Folder, File}
use Rattle.ks_written.specs.declared.written.Written.{Written}
use Rattle.ks_written.specs.Entries.{Entry, entries, entries_from, listed}
use Rattle.ks_setup.specs.Steps.{AreFew}
use Rattle.ks_written.specs.Written.{default_settings, domain_in, endpoint_in, folder_named, folder_text, grant_in, group_in, implication_in, key_in, key_texts, keys_from, keys_of, listed_or_named, member_in, project_in, region_in, role_in, service_in, settings_at, settings_in, settings_of, url_text, user_in, written_in}

-- what was read in two parts was read in each
parts : {A B F : Type 0} (r : Result A F) (f : A → Result B F) (b : B) → (r >>= f) ≡ Ok b → (a : A) × (r ≡ Ok a) × (f a ≡ Ok b)
parts (Ok a) f b h = (a, refl, h)
parts (Err fault) f b h = absurd (cc h)

abbrev ok : {A : Type 0} (F : Type 0) → A → Result A F
ok F a = Ok a

same : {A F : Type 0} (a b : A) → ok F a ≡ Ok b → a ≡ b
same a b h = cc

needed_holds : {F : Type 0} (test : Bool) (fault : F) (u : Unit {0}) → need test fault ≡ Ok u → test ≡ true
needed_holds true fault u h = refl
needed_holds false fault u h = absurd (cc h)

judged_ok : {A : Type 0} (path : List ℕ) (r : Result A Misfit) (a : A) → judged path r ≡ Ok a → r ≡ Ok a
judged_ok path (Ok b) a h = ap Ok (same b a h)
judged_ok path (Err misfit) a h = absurd (cc h)

-- the iteration count

abbrev IsRounds : ℕ → Type 0
IsRounds rounds = (1 ≤ rounds) × (rounds ≤ 100000)

pub in_range : (least most n : ℕ) → is_in_range least most n ≡ true → (least ≤ n) × (n ≤ most)
in_range least most n e =
    let both = and_parts (nat_le least n) (nat_le n most) e in
    let above = both.0 in
    let below = both.1 in
    (grind (arith, nat_tests), grind (arith, nat_tests))

whole_within : (least most : ℕ) (value : Data) (n : ℕ) → whole least most value ≡ Ok n → (least ≤ n) × (n ≤ most)
unfolding whole
whole_within least most value n h =
    let number = parts (found (option_and_then as_u64 (as_number value)) misfit.Kind) _ n h in
    let fits = parts (need (is_in_range least most number.0) misfit.Range) _ n number.2 in
    let is : number.0 ≡ n = same number.0 n fits.2 in
    let within = in_range least most number.0 (needed_holds _ _ _ fits.1) in
    (omega (arith, within.0), omega (arith, within.1))

-- a number that may be absent, or else stands for this one
given_within : (least most other : ℕ) (value : Option Data) (o : Option ℕ) → least ≤ other → other ≤ most
    → if_given (whole least most) value ≡ Ok o → (least ≤ unwrap_or o other) × (unwrap_or o other ≤ most)
given_within least most other None o low high h = rw (sym (same None o h)) (low, high)
given_within least most other (Some value) o low high h =
    let n = parts (whole least most value) _ _ h in
    rw (sym (same (Some n.0) o n.2)) (whole_within least most value n.0 n.1)

optional_within : (least most other : ℕ) (path : List (List ℕ)) (place : Place) (o : Option ℕ) → least ≤ other → other ≤ most
    → optional (whole least most) path place ≡ Ok o → (least ≤ unwrap_or o other) × (unwrap_or o other ≤ most)
unfolding optional
optional_within least most other path place o low high h =
    let value = parts (optional_value path place) _ o h in
    given_within least most other value.0 o low high (judged_ok (path_at path place) (if_given (whole least most) value.0) o value.2)

settings_rounds : (place : Place) (settings : Settings) → settings_at place ≡ Ok settings → IsRounds settings.rounds
unfolding settings_at
settings_rounds place settings h =
    let P : Settings → Type 0 = λ s. IsRounds s.rounds in
    let url = parts (optional url_text (names (codes "url")) place) _ settings h in
    let life = parts (optional (whole 60 604800) (names (codes "life")) place) _ settings url.2 in
    let rounds = parts (optional (whole 1 100000) (names (codes "rounds")) place) _ settings life.2 in
    let most = parts (optional (whole 2 32) (names (codes "max_active_keys")) place) _ settings rounds.2 in
    subst P (same _ settings most.2)
    (optional_within 1 100000 10000 (names (codes "rounds")) place rounds.0 (omega arith) (omega arith) rounds.1)

default_rounds : (value : Option Data) (settings : Settings) → settings_in value ≡ Ok settings → IsRounds settings.rounds
default_rounds None settings h =
    let P : Settings → Type 0 = λ s. IsRounds s.rounds in
    subst P (same default_settings settings h) (omega arith, omega arith)
default_rounds (Some value) settings h = settings_rounds (record { path = codes "settings"; value = Some value }) settings h

settings_bound : (file : Place) (settings : Settings) → settings_of file ≡ Ok settings → IsRounds settings.rounds
unfolding settings_of
settings_bound file settings h =
    let value = parts (optional_value (names (codes "settings")) file) _ settings h in
    default_rounds value.0 settings value.2

-- the keys

entries_count : {A : Type 0} (entry : Entry A) (path : List (List ℕ)) (file : Place) (number : ℕ) (items : Items) (rows : List A)
    → entries_from entry path file number items ≡ Ok rows → length rows ≡ count_of items
unfolding entries_from
entries_count entry path file number no_items rows h = ap length (sym (same [] rows h))
entries_count entry path file number (item value items) rows h =
    let first = parts (entry (entry_at path number value file)) _ rows h in
    let others = parts (entries_from entry path file (suc number) items) _ rows first.2 in
    ap length (sym (same (first.0 ∷ others.0) rows others.2)) ∙ ap (λ n. suc n) (entries_count entry path file (suc number) items others.0 others.1)

list_count : (most : ℕ) (value : Data) (items : Items) → list_of most value ≡ Ok items → count_of items ≤ most
unfolding list_of
list_count most value items h =
    let all = parts (found (as_array value) misfit.Kind) _ items h in
    let fits = parts (need (nat_le (count_of all.0) most) misfit.Range) _ items all.2 in
    let few = leb-true (count_of all.0) most (needed_holds _ _ _ fits.1) in
    let P : Items → Type 0 = λ xs. count_of xs ≤ most in
    subst P (same all.0 items fits.2) few

needed_count : (most : ℕ) (path : List (List ℕ)) (place : Place) (items : Items) → needed (list_of most) path place ≡ Ok items → count_of items ≤ most
unfolding needed
needed_count most path place items h =
    let value = parts (needed_value path place) _ items h in
    list_count most value.0 items (judged_ok (path_at path place) (list_of most value.0) items value.2)

texts_few : (file : Place) (keys : KeysFrom) → key_texts file ≡ Ok keys → AreFew keys
unfolding key_texts
texts_few file keys h =
    let items = parts (needed (list_of 32) (names (codes "keys")) file) _ keys h in
    let some = parts (need (nat_lt 0 (count_of items.0)) (fault.Range (path_at (names (codes "keys")) file))) _ keys items.2 in
    let texts = parts (entries_from key_in (names (codes "keys")) file 0 items.0) _ keys some.2 in
    let count = entries_count key_in (names (codes "keys")) file 0 items.0 texts.0 texts.1 in
    let few = needed_count 32 (names (codes "keys")) file items.0 items.1 in
    let le : length texts.0 ≤ 32 = omega (arith, count, few) in
    subst AreFew (same (File texts.0) keys texts.2) le

folder_word : (value : Data) (keys : KeysFrom) → folder_text value ≡ Ok keys → AreFew keys
unfolding folder_text
folder_word value keys h =
    let text = parts (any_text value) _ keys h in
    let is = parts (need (bytes_eq text.0 (codes "folder")) misfit.Range) _ keys text.2 in
    subst AreFew (same Folder keys is.2) tt

folder_few : (file : Place) (keys : KeysFrom) → folder_named file ≡ Ok keys → AreFew keys
unfolding needed
folder_few file keys h =
    let value = parts (needed_value (names (codes "keys")) file) _ keys h in
    folder_word value.0 keys (judged_ok (path_at (names (codes "keys")) file) (folder_text value.0) keys value.2)

either_few : (items : Option Items) (file : Place) (keys : KeysFrom) → listed_or_named items file ≡ Ok keys → AreFew keys
either_few (Some items) file keys h = texts_few file keys h
either_few None file keys h = folder_few file keys h

from_few : (value : Option Data) (file : Place) (keys : KeysFrom) → keys_from value file ≡ Ok keys → AreFew keys
from_few None file keys h = subst AreFew (same Folder keys h) tt
from_few (Some value) file keys h = either_few (as_array value) file keys h

keys_few : (file : Place) (keys : KeysFrom) → keys_of file ≡ Ok keys → AreFew keys
unfolding keys_of
keys_few file keys h =
    let value = parts (optional_value (names (codes "keys")) file) _ keys h in
    from_few value.0 file keys value.2

-- the whole

abbrev pub IsBounded : Written → Type 0
IsBounded written = IsRounds written.settings.rounds × AreFew written.keys

pub written_bounded : (file : Place) (written : Written) → written_in file ≡ Ok written → IsBounded written
unfolding written_in
written_bounded file written h =
    let settings = parts (settings_of file) _ written h in
    let keys = parts (keys_of file) _ written settings.2 in
    let domains = parts (listed domain_in (names (codes "domains")) file) _ written keys.2 in
    let projects = parts (entries project_in (names (codes "projects")) file) _ written domains.2 in
    let users = parts (entries user_in (names (codes "users")) file) _ written projects.2 in
    let groups = parts (entries group_in (names (codes "groups")) file) _ written users.2 in
    let members = parts (entries member_in (names (codes "members")) file) _ written groups.2 in
    let roles = parts (entries role_in (names (codes "roles")) file) _ written members.2 in
    let implications = parts (entries implication_in (names (codes "implications")) file) _ written roles.2 in
    let regions = parts (entries region_in (names (codes "regions")) file) _ written implications.2 in
    let services = parts (entries service_in (names (codes "services")) file) _ written regions.2 in
    let endpoints = parts (entries endpoint_in (names (codes "endpoints")) file) _ written services.2 in
    let assignments = parts (entries grant_in (names (codes "assignments")) file) _ written endpoints.2 in
    subst IsBounded (same _ written assignments.2) (settings_bound file settings.0 settings.1, keys_few file keys.0 keys.1)
