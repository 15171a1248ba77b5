use Rattle.std.proofs.Common.{◌≡◌, false, take}
use Rattle.std.specs.List.{list_any}
use Rattle.std.specs.Option.{option_map_or}
use Rattle.ks_base.specs.Factors.{secret_of}
use Rattle.ks_totp.specs.Hotp.{fits_at}
use Rattle.ks_totp.proofs.secrets.any_fits.Given as goal

abbrev pub invariant-loop-owner : goal.invariant-loop-owner
invariant-loop-owner l =
    l.found ≡ list_any (λ owner. option_map_or (λ row. fits_at row.secret l.code l.moment) (secret_of owner.secret l.secrets) false) (take l.owner-index l.owner-items)
