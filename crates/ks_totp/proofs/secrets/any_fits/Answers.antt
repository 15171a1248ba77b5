use Rattle.std.proofs.Common.{◌≡◌, ℕ, ◌≤◌, List, false, take, length, arith, ap, ◌∙◌}
use Rattle.std.proofs.lemmas.Grind.{common_steps}
use Rattle.std.specs.List.{list_any}
use Rattle.std.specs.Option.{option_map_or}
use Rattle.ks_base.specs.declared.factors.SecretRow.{SecretRow}
use Rattle.ks_base.specs.Factors.{secret_of}
use Rattle.ks_totp.specs.declared.owners.OwnerRow.{OwnerRow}
use Rattle.ks_totp.specs.Hotp.{fits_at}
use Rattle.ks_totp.proofs.OwnerLemmas.{any_by_owner}
use Rattle.ks_totp.proofs.secrets.any_fits.Goals as goal

whole : {X : Type 0} (n : ℕ) (xs : List X) → length xs ≤ n → take n xs ≡ xs
whole n xs past = grind (arith, common_steps)

pub returns : goal.returns
returns c =
    let all : take c.loop-owner.owner-index c.of-owner-items.result.now ≡ c.of-owner-items.result.now = whole c.loop-owner.owner-index c.of-owner-items.result.now (omega arith) in
    c.loop-owner.invariant
    ∙ ap (list_any (λ (owner : OwnerRow). option_map_or (λ row. fits_at row.secret c.args.code c.args.moment) (secret_of owner.secret c.args.secrets.now) false))
    (all ∙ c.of-owner-items.ensures.rows)
    ∙ any_by_owner (λ (row : SecretRow). fits_at row.secret c.args.code c.args.moment) c.args.user.now c.args.secrets.now c.args.owners.now c.rows-ascending.ensures.ascending c.requires
