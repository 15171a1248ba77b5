-- What a pass knows, and how the steps change it.
use Rattle.std.specs.Prelude.{ℕ, ◌+◌, ◌-◌, List, [], ◌++◌, length, max, if◌then◌else◌, nat_lt, true, false}
use Rattle.ks_machine.specs.declared.change.Entry.{Entry}
use Rattle.ks_machine.specs.Fronts.{Front}
use Rattle.ks_turn.specs.declared.view.Seen.{Seen}
use Rattle.ks_turn.specs.declared.view.View.{View}
use Rattle.ks_turn.specs.Sums.{numbers}

-- all fronts of a turn have the opening of the first one
abbrev pub front_at : Front → Seen → Front
front_at first seen = record { opening = first.opening; changes = seen.changes; high = seen.high; kept = seen.kept }

abbrev pub seen_of : Front → Seen
seen_of f = record { changes = f.changes; high = f.high; kept = f.kept }

-- | the numbers of the changes that came since
abbrev pub since : List Entry → List Entry → List ℕ
since old new = numbers (length old) (length new - length old)

-- | the highest moment where it rose, else the top so far
abbrev pub risen : ℕ → ℕ → ℕ → ℕ
risen old new top = if nat_lt old new then new else top

-- the first pass has all the weight
abbrev pub first_view : Front → View
first_view first = record { seen = seen_of first; told = seen_of first; own = []; top = 0; weight = 1000000; holds = false }

-- | who takes the turn sees all that happened
abbrev pub holding : Seen → View → View
holding base v = record v { seen = base; told = base; holds = true }

-- | who gives the turn back, with a value that stands for this front
abbrev pub given : Front → View → View
given f v = record v {
  seen = seen_of f;
  told = seen_of f;
  own = v.own ++ since v.seen.changes f.changes;
  top = risen v.seen.high f.high v.top;
  holds = false;
}

-- a pass is cut in two
abbrev pub left_over : View → View
left_over v = record v { weight = v.weight - 1 }

abbrev pub cut_off : View → View
cut_off v = record v { told = v.seen; own = []; top = 0; weight = 1; holds = false }

-- | two passes meet: the one is told what the other has seen, and the other is spent
abbrev pub met : View → View → View
met v w = record v { told = w.seen; own = v.own ++ w.own; top = max v.top w.top; weight = v.weight + w.weight }

abbrev pub spent : Front → View
spent first = record (first_view first) { weight = 0 }
