-- What a keeper in memory holds once an entry was put, and its count of faults.
use Rattle.std.proofs.Common.{◌≡◌, ℕ, ◌≤◌, ◌==◌, cond, List, Option, Some, ap, ap₂, ◌∙◌, arith}
use Rattle.std.proofs.Math.Path.{fun_ext}
use Rattle.std.proofs.lemmas.Bool.Decides.{nat_tests}
use Rattle.std.specs.Ordering.{nat_cmp, is_eq}
use Rattle.ks_outside.specs.Counts.{Counts, next_count}
use Rattle.ks_keeper.specs.Keeper.{Kept, with_entry}
use Rattle.ks_keeper.specs.Memory.{MemoryKeeperState, told_kept, entry_in}

same_test : (number n : ℕ) → is_eq (nat_cmp number n) ≡ (n == number)
same_test number n = grind (arith, nat_tests)

made : Option (List ℕ) → (ℕ → Option (List ℕ)) → Kept
made header entries = record { header = header; entries = entries }

-- what is told once an entry was put, whatever the counts are
pub kept_put : (number : ℕ) (bytes : List ℕ) (old mid new : MemoryKeeperState) → told_kept mid ≡ told_kept old → new.header ≡ mid.header
    → ((n : ℕ) → entry_in new.entries n ≡ cond (is_eq (nat_cmp number n)) (Some bytes) (entry_in mid.entries n)) → told_kept new ≡ with_entry number bytes (told_kept old)
unfolding made
kept_put number bytes old mid new same header all =
    ap₂ made header (fun_ext (λ n. all n ∙ ap (λ b. cond b (Some bytes) (entry_in mid.entries n)) (same_test number n))) ∙ ap (with_entry number bytes) same

pub counts_via : {F : Type 0} (old mid new : MemoryKeeperState) → mid.faults ≡ old.faults → mid.faults ≤ new.faults → new ≡ record mid { faults = next_count mid.faults } → Counts F old.faults new.faults
counts_via old mid new same kept is = record {
  kept = omega arith;
  rose = λ _. let e = ap (λ (s : MemoryKeeperState). s.faults) is ∙ ap next_count same in omega arith;
}
