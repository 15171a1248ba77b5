-- The opening of a drill is in range.
use Rattle.std.proofs.Common.{◌≡◌, ℕ, zero, suc, ◌+◌, ◌^◌, ◌<◌, ◌≤◌, List, [], ◌∷◌, ◌++◌, length, refl, sym, subst, arith, add-one, lit<, lit≤}
use Rattle.std.specs.Prelude.{codes}
use Rattle.std.specs.List.{AllByRecursion}
use Rattle.ks_base.specs.declared.rows.RoleRow.{RoleRow}
use Rattle.ks_machine.specs.Lawful.{IsOpeningInRange}
use Rattle.ks_machine.specs.Openings.{NamedRule, PlainOpening}
use Rattle.ks_machine.specs.Ranges.{IsRoleInRange, IsSettings}
use Rattle.ks_drill.specs.Openings.{drill_opening, drill_settings, each_below, role_id, role_named}
use Rattle.ks_drill.proofs.WordLemmas.{name_numbered}

pub each_more : {A : Type 0} (f : ℕ → A) (n : ℕ) → each_below f (n + 1) ≡ each_below f n ++ f n ∷ []
unfolding each_below
each_more f n = rw add-one refl

all_snoc : {A : Type 0} (P : A → Type 0) (xs : List A) (x : A) → AllByRecursion P xs → P x → AllByRecursion P (xs ++ x ∷ [])
all_snoc P [] x all last = (last, tt)
all_snoc P (y ∷ xs) x all last = (all.0, all_snoc P xs x all.1 last)

all_below : {A : Type 0} (P : A → Type 0) (f : ℕ → A) (n : ℕ) → ((i : ℕ) → i < n → P (f i)) → AllByRecursion P (each_below f n)
unfolding each_below
all_below P f zero each = tt
all_below P f (suc n) each = all_snoc P (each_below f n) (f n) (all_below P f n (λ i below. each i (omega arith))) (each n (omega arith))

role_in_range : (number : ℕ) → number < 16 → IsRoleInRange (role_named (role_id number))
role_in_range number below = (name_numbered (codes "r") (role_id number) number refl (omega arith) refl, lit≤ tt)

settings_in_range : IsSettings drill_settings
settings_in_range = record {
  life_least = lit≤ tt;
  life_most = lit≤ tt;
  rounds = (lit≤ tt, lit≤ tt);
  keys_least = lit≤ tt;
  keys_most = lit≤ tt;
}

pub drill_in_range : (rules : List NamedRule) → IsOpeningInRange (drill_opening rules)
unfolding drill_opening
drill_in_range rules = record {
  settings = settings_in_range;
  domains = (((lit≤ tt, lit≤ tt), lit≤ tt), tt);
  projects = (((lit≤ tt, lit≤ tt), lit≤ tt), tt);
  users = (((lit≤ tt, lit≤ tt), (lit≤ tt, lit≤ tt)), tt);
  groups = tt;
  roles = (((lit≤ tt, lit≤ tt), lit≤ tt), all_below IsRoleInRange (λ number. role_named (role_id number)) 16 role_in_range);
  regions = tt;
  services = tt;
  endpoints = tt;
}

pub opening_in_range : (opening : PlainOpening) (rules : List NamedRule) → opening ≡ drill_opening rules → IsOpeningInRange opening
opening_in_range opening rules made = subst IsOpeningInRange (sym made) (drill_in_range rules)
