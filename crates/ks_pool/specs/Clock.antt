-- What the clock is taken to show. The wall clock can be set. So it is compared with a steady one, which goes on evenly and which
-- nobody sets. Both are in whole seconds.
use Rattle.std.specs.Prelude.{ℕ, ◌+◌, ◌-◌, ◌^◌, min, Bool, not, ◌&&◌, Option, Some, None, nat_lt, nat_le, if◌then◌else◌}
use Rattle.std.specs.Option.{option_map_or}
use Rattle.ks_pool.specs.declared.limits.TheConstants.{LEAP_SECONDS}
use Rattle.ks_pool.specs.declared.watch.Shown.{Shown}
use Rattle.ks_pool.specs.declared.watch.Watch.{Watch}
use Rattle.ks_pool.specs.declared.watch.Judged.{Judged}
use Rattle.ks_pool.specs.declared.watch.Judged.TheVariants as judge

-- | what the wall clock is due to show now, where it showed this before
abbrev pub due : Shown → Shown → ℕ
due before now = min (before.wall + (now.steady - before.steady)) (2 ^ 64 - 1)

-- | it shows more than 60 seconds more, or less, than is due
abbrev pub is_ahead : Shown → Shown → Bool
is_ahead before now = nat_lt (due before now + LEAP_SECONDS) now.wall

abbrev pub is_behind : Shown → Shown → Bool
is_behind before now = nat_lt (now.wall + LEAP_SECONDS) (due before now)

-- | neither, so that it went on
abbrev pub goes_on : Shown → Shown → Bool
goes_on before now = not (is_ahead before now) && not (is_behind before now)

-- | 60 seconds have gone
abbrev pub has_stood : Shown → Shown → Bool
has_stood before now = nat_le (before.steady + LEAP_SECONDS) now.steady

-- | a leap forward, where another is doubted or none: it is believed once it has stood
abbrev pub judged_leap : Option Shown → Shown → Judged
judged_leap None now = judge.Doubted
judged_leap (Some since) now =
    if goes_on since now then (if has_stood since now then judge.Believed else judge.StillDoubted) else judge.Doubted

-- | behind what was shown when it last counted
abbrev pub judged_behind : Option Shown → Shown → Shown → Judged
judged_behind doubted last now =
    if is_ahead last now then judged_leap doubted now
    else if nat_lt now.wall last.wall then judge.Back
    else judge.Good

-- what is made of what both clocks show: the first time it counts, a leap forward is doubted until it has stood, one back counts, and all
-- else too
abbrev pub judged : Watch → Shown → Judged
judged watch now = option_map_or (λ last. judged_behind watch.doubted last now) watch.last judge.Good

-- what is due by what last counted
abbrev pub due_now : Watch → Shown → ℕ
due_now watch now = option_map_or (λ last. due last now) watch.last now.wall

-- the reading: what the wall clock shows, and while a leap is doubted what is due by what last counted
abbrev pub reading_by : Judged → Watch → Shown → ℕ
reading_by judge.Good watch now = now.wall
reading_by judge.Back watch now = now.wall
reading_by judge.Doubted watch now = due_now watch now
reading_by judge.StillDoubted watch now = due_now watch now
reading_by judge.Believed watch now = now.wall

abbrev pub reading : Watch → Shown → ℕ
reading watch now = reading_by (judged watch now) watch now

-- what is kept: what counted last, and where the leap began that is doubted
abbrev pub kept_by : Judged → Watch → Shown → Watch
kept_by judge.Good watch now = record { last = Some now; doubted = None }
kept_by judge.Back watch now = record { last = Some now; doubted = None }
kept_by judge.Doubted watch now = record { last = watch.last; doubted = Some now }
kept_by judge.StillDoubted watch now = watch
kept_by judge.Believed watch now = record { last = Some now; doubted = None }

abbrev pub kept : Watch → Shown → Watch
kept watch now = kept_by (judged watch now) watch now
