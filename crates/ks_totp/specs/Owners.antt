-- Whose secrets stand, by user and then by secret.
use Rattle.std.proofs.Common.{◌≡◌, List}
use Rattle.std.specs.declared.cmp.Ordering.{Ordering}
use Rattle.std.specs.declared.cmp.Ordering.TheVariants.{Equal}
use Rattle.std.specs.Cmp.{IsTotalOrder}
use Rattle.std.specs.Ordering.{then_cmp, on}
use Rattle.std.proofs.lemmas.Cmp.{nat_list_cmp_total, then_total, on_total}
use Rattle.ks_base.specs.declared.factors.SecretRow.{SecretRow}
use Rattle.ks_base.specs.OrderLaws.{first_part, id_exact, keyed_run, then_equal}
use Rattle.ks_base.specs.Rows.{Id}
use Rattle.ks_base.specs.Runs.{IsRun}
use Rattle.ks_base.specs.Tables.{id_cmp, Among}
use Rattle.ks_totp.specs.declared.owners.OwnerRow.{OwnerRow}

abbrev pub owner_cmp : OwnerRow → OwnerRow → Ordering
owner_cmp = then_cmp (on (λ row. row.user) id_cmp) (on (λ row. row.secret) id_cmp)

pub owner_total : IsTotalOrder owner_cmp
owner_total = then_total (on_total (λ row. row.user) nat_list_cmp_total) (on_total (λ row. row.secret) nat_list_cmp_total)

pub owner_exact : (a b : OwnerRow) → owner_cmp a b ≡ Equal → a ≡ b
owner_exact a b e =
    let both = then_equal (id_cmp a.user b.user) (id_cmp a.secret b.secret) e in
    let user = id_exact a.user b.user both.0 in
    let secret = id_exact a.secret b.secret both.1 in
    λ i. record { user = user i; secret = secret i }

-- the secrets of a user stand side by side
pub owner_run : (user : Id) → IsRun owner_cmp (λ row. id_cmp row.user user)
owner_run =
    keyed_run id_cmp (λ (row : OwnerRow). row.user) owner_cmp nat_list_cmp_total
    (λ a b less. first_part (id_cmp a.user b.user) (id_cmp a.secret b.secret) less)

-- whose a secret is
abbrev pub owner_of : SecretRow → OwnerRow
owner_of row = record { user = row.user; secret = row.id }

-- the owners are those of the secrets, and no others
pub record AreOwners (secrets : List SecretRow) (owners : List OwnerRow) : Type 0 where
  pub forth : (row : SecretRow) → Among secrets row → Among owners (owner_of row)
  pub back : (owner : OwnerRow) → Among owners owner → (row : SecretRow) × Among secrets row × (owner_of row ≡ owner)
