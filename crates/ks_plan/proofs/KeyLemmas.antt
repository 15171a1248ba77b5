-- What is told of keys is told by their indices.
use Rattle.std.proofs.Common.{◌≡◌, ℕ, ◌-◌, List, [], ◌∷◌, ◌++◌, map, reverse, take, refl, ap, sym, ◌∙◌}
use Rattle.std.specs.Prelude.{suc, not, nat_lt, find, Some, if◌then◌else◌, is_some}
use Rattle.std.proofs.lemmas.Grind.{reverse_onto}
use Rattle.std.proofs.lemmas.List.{map-append, take-map}
use Rattle.ks_base.specs.declared.key.Key.{Key}
use Rattle.ks_base.specs.declared.faults.KeysFault.TheVariants as fault
use Rattle.ks_base.specs.declared.receipt.Drawn.{Drawn}
use Rattle.ks_machine.specs.Attempts.{Go, need}
use Rattle.ks_machine.specs.declared.body_out.BodyOut.{BodyOut}
use Rattle.ks_machine.specs.declared.call.FolderRead.{FolderRead}
use Rattle.ks_machine.specs.declared.cause.Cause.TheVariants as cause
use Rattle.ks_machine.specs.declared.change.Change.TheVariants as change
use Rattle.ks_machine.specs.declared.settings.Settings.{Settings}
use Rattle.ks_machine.specs.Keys.{keys_read, load_keys, rotate_keys, told_keys}
use Rattle.ks_machine.specs.Outcomes.{key}
use Rattle.ks_machine.specs.States.{State}
use Rattle.ks_checks.specs.Plans.{outcome_of}
use Rattle.ks_checks.specs.declared.plan.Plan.{Plan}
use Rattle.ks_ring.specs.declared.held_key.HeldKey.{HeldKey}
use Rattle.ks_ring.specs.Rings.{RingState, active, held_as, highest, is_staged, left_of, load_of, lowest_number, new_of, no_ring, numbered, promoted, promoted_to, rising, rotate_of}
use Rattle.ks_plan.specs.KeysTold.{first_index, indices_of, indices_rotated, keys_told}

highest_is_first : (held : List HeldKey) → highest held ≡ first_index (indices_of held)
highest_is_first [] = refl
highest_is_first (key ∷ held) = refl

pub told_by_indices : (ring : RingState) (falling : List ℕ) → falling ≡ indices_of ring.held → told_keys ring ≡ keys_told falling
told_by_indices ring falling is = rw (is, ← highest_is_first ring.held) refl

pub rotated_indices : (ring : RingState) (new : Key) (most : ℕ) → indices_rotated ring.held most ≡ indices_of (rotate_of ring new most).held
unfolding rotate_of
rotated_indices ring new most =
    ap (λ front. front ++ 0 ∷ []) (take-map (λ (key : HeldKey). key.index) (most - 1) (promoted ring.held))
    ∙ sym (map-append (λ (key : HeldKey). key.index) (take (most - 1) (promoted ring.held)) (held_as (0, new) ring.next ∷ []))

-- keys that are numbered keep their indices
numbered_indices : (free : List HeldKey) (next : ℕ) (entries : List (ℕ × Key)) → indices_of (numbered free next entries) ≡ map (λ entry. entry.0) entries
unfolding numbered
numbered_indices free next [] = refl
numbered_indices free next (entry ∷ entries) =
    ap (λ indices. entry.0 ∷ indices)
    (numbered_indices (left_of (lowest_number entry.1 free) free) (if is_some (lowest_number entry.1 free) then next else suc next) entries)

map_reverse : (held : List HeldKey) → indices_of (reverse held) ≡ reverse (indices_of held)
map_reverse [] = refl
map_reverse (key ∷ held) =
    ap indices_of (reverse_onto held key [])
    ∙ map-append (λ (key : HeldKey). key.index) (reverse held) (key ∷ [])
    ∙ ap (λ front. front ++ key.index ∷ []) (map_reverse held)
    ∙ sym (reverse_onto (indices_of held) key.index [])

loaded : (ring : RingState) (found : List (ℕ × Key)) → indices_of (load_of ring found).held ≡ reverse (map (λ entry. entry.0) (rising found))
unfolding load_of
loaded ring found = map_reverse (numbered ring.held ring.next (rising found)) ∙ ap reverse (numbered_indices ring.held ring.next (rising found))

-- so they do not hang on what was held before
pub loaded_indices : (ring : RingState) (found : List (ℕ × Key)) → indices_of (new_of found).held ≡ indices_of (load_of ring found).held
loaded_indices ring found = loaded no_ring found ∙ sym (loaded ring found)

-- a promoted key stands before those that are not staged
pub promoted_indices : (held : List HeldKey) → indices_of (promoted held) ≡ indices_of (promoted_to (suc (highest held)) (find is_staged held)) ++ indices_of (active held)
promoted_indices held = map-append (λ (key : HeldKey). key.index) (promoted_to (suc (highest held)) (find is_staged held)) (active held)

-- the plans

pub rotated_by : (S : State) (drawn : Drawn) (ring : RingState) (settings : Settings) (new : Key) (indices : List ℕ) (told : BodyOut) (plan : Plan) →
    S.settings ≡ settings → S.ring ≡ ring → need (not settings.folder) cause.KeyMode ≡ Go tt →
    need (nat_lt (highest ring.held) 999999999) (cause.Keys fault.IndexEnd) ≡ Go tt → new ≡ key drawn →
    indices ≡ indices_rotated ring.held settings.max_keys → told ≡ keys_told indices → plan ≡ record { told = told; change = Some (change.Rotate new) } →
    rotate_keys S drawn ≡ Go (outcome_of plan)
unfolding rotate_keys
rotated_by S drawn ring settings new indices told plan settings_are ring_is mode below new_is indices_are told_is plan_is =
    rw (settings_are, ring_is, mode, below, plan_is, told_is, new_is, told_by_indices (rotate_of ring (key drawn) settings.max_keys) indices (indices_are ∙ rotated_indices ring (key drawn) settings.max_keys)) refl

pub loaded_by : (S : State) (read : FolderRead) (ring : RingState) (settings : Settings) (found kept : List (ℕ × Key)) (indices : List ℕ) (told : BodyOut) (plan : Plan) →
    S.settings ≡ settings → S.ring ≡ ring → need settings.folder cause.KeyMode ≡ Go tt → keys_read read ≡ Go found → kept ≡ found →
    indices ≡ indices_of (new_of found).held → told ≡ keys_told indices → plan ≡ record { told = told; change = Some (change.Load kept) } →
    load_keys S read ≡ Go (outcome_of plan)
unfolding load_keys
loaded_by S read ring settings found kept indices told plan settings_are ring_is mode keys_are kept_are indices_are told_is plan_is =
    rw (settings_are, ring_is, mode, keys_are, plan_is, told_is, kept_are, told_by_indices (load_of ring found) indices (indices_are ∙ loaded_indices ring found)) refl
