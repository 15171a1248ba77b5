-- What is told and left of trusts that go, by their ids.
use Rattle.std.proofs.Common.{◌≡◌, Bool, List, [], ◌∷◌, ◌++◌, map, filter, IfOk, Result, Ok, Err, refl, sym, ap, subst, ◌∙◌}
use Rattle.ks_base.specs.declared.events.Revoke.{Revoke}
use Rattle.ks_base.specs.declared.events.Revoke.TheVariants as revoke
use Rattle.ks_base.specs.declared.memory.Memory.{Memory}
use Rattle.ks_base.specs.declared.trusts.TrustRow.{TrustRow}
use Rattle.ks_base.specs.Rows.{Id}
use Rattle.ks_base.specs.Tables.{id_cmp, IsAscending}
use Rattle.ks_base.specs.Trusts.{trusts_gone, trusts_left}
use Rattle.ks_trust.proofs.IdLists.{gone_by_ids, left_by_ids, names_those}
use Rattle.ks_trust.specs.State.{ids_of, is_listed, without_trusts, IsClosed}
use Rattle.ks_state.specs.declared.trusts_gone.TrustsGone.{TrustsGone}

pub left_is : (trusts : List TrustRow) (test : TrustRow → Bool) (touched : List Id) (r : Result (List Id) Memory) → IsAscending id_cmp (λ trust. trust.id) trusts →
    touched ≡ ids_of (filter test trusts) → IfOk r (λ all. all ≡ ids_of (trusts_gone trusts (is_listed touched))) →
    IfOk r (λ ids. without_trusts ids trusts ≡ trusts_left trusts test)
left_is trusts test touched (Ok all) up is h =
    ap (λ ids. without_trusts ids trusts)
    (h ∙ ap ids_of (gone_by_ids trusts test touched (λ t among. ap (λ ids. is_listed ids t) is ∙ names_those trusts test t up among)))
    ∙ left_by_ids trusts test up
left_is trusts test touched (Err e) up is h = tt

trusts_told : (trusts : List TrustRow) → map revoke.Trust (ids_of trusts) ≡ map (λ trust. revoke.Trust trust.id) trusts
trusts_told [] = refl
trusts_told (trust ∷ trusts) = ap (λ (rest : List Revoke). revoke.Trust trust.id ∷ rest) (trusts_told trusts)

pub told_with : (first things : List Revoke) (gone : List TrustRow) (ids : List Id) → things ≡ first ++ map revoke.Trust ids → ids ≡ ids_of gone →
    things ≡ first ++ map (λ trust. revoke.Trust trust.id) gone
told_with first things gone ids is names = is ∙ ap (λ l. first ++ map revoke.Trust l) names ∙ ap (λ (rest : List Revoke). first ++ rest) (trusts_told gone)

-- the same of a state that is shown otherwise

pub things_as : (r : Result TrustsGone Memory) (a b : List Revoke) → a ≡ b → IfOk r (λ gone. gone.things ≡ a) → IfOk r (λ gone. gone.things ≡ b)
things_as (Ok gone) a b same is = is ∙ same
things_as (Err e) a b same is = tt

pub closed_as : (r : Result TrustsGone Memory) (trusts shown : List TrustRow) → trusts ≡ shown → IfOk r (λ gone. IsClosed trusts gone.ids) → IfOk r (λ gone. IsClosed shown gone.ids)
closed_as r trusts shown same is = subst (λ (l : List TrustRow). IfOk r (λ gone. IsClosed l gone.ids)) same is

pub left_as : (r : Result TrustsGone Memory) (trusts shown a b : List TrustRow) → trusts ≡ shown → a ≡ b → IfOk r (λ gone. without_trusts gone.ids trusts ≡ a) →
    IfOk r (λ gone. without_trusts gone.ids shown ≡ b)
left_as (Ok gone) trusts shown a b same alike is = ap (λ (l : List TrustRow). without_trusts gone.ids l) (sym same) ∙ is ∙ alike
left_as (Err e) trusts shown a b same alike is = tt
