-- A whole number within bounds is no larger than the upper one.
use Rattle.std.proofs.Common.{◌≡◌, ℕ, ◌≤◌, Bool, true, false, Option, Some, None, Ok, refl, arith}
use Rattle.std.specs.Prelude.{◌&&◌, nat_le, option_and_then}
use Rattle.std.specs.Int.{is_in_range}
use Rattle.std.proofs.lemmas.Bool.Decides.{nat_tests}
use Rattle.ks_base.specs.Results.{◌>>=◌, found, need}
use Rattle.serde_json.specs.Data.{Data}
use Rattle.serde_json.specs.Find.{as_number, as_u64}
use Rattle.ks_shape.specs.declared.misfit.Misfit.TheVariants.{Kind, Range}
use Rattle.ks_shape.specs.Types.{whole}

second_holds : (a b : Bool) (m n : ℕ) → (need (a && b) Range >>= (λ _. Ok m)) ≡ Ok n → (b ≡ true) × (m ≡ n)
second_holds true true m n e = (refl, cc)
second_holds true false m n e = cc
second_holds false b m n e = cc

in_bounds : (least most : ℕ) (o : Option ℕ) (n : ℕ)
    → (found o Kind >>= (λ m. need (is_in_range least most m) Range >>= (λ _. Ok m))) ≡ Ok n → n ≤ most
in_bounds least most None n e = cc
in_bounds least most (Some m) n e =
    let both = second_holds (nat_le least m) (nat_le m most) m n e in
    let le : m ≤ most = grind (arith, nat_tests, both.0) in
    omega (arith, le, both.1)

pub whole_fits : (least most : ℕ) (value : Data) (n : ℕ) → whole least most value ≡ Ok n → n ≤ most
unfolding whole
whole_fits least most value n e = in_bounds least most (option_and_then as_u64 (as_number value)) n e
