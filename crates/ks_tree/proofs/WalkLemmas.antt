use Rattle.std.proofs.Common.{◌≡◌, ℕ, zero, suc, Bool, true, false, List, [], ◌∷◌, ◌++◌, map, Some, None, refl, ap, sym, ◌∙◌, arith, append_assoc}
use Rattle.std.specs.List.{find}
use Rattle.ks_base.specs.declared.rows.ProjectRow.{ProjectRow}
use Rattle.ks_base.specs.Tree.{parent_of, above_within}
use Rattle.ks_base.specs.Tables.{with_higher}

-- with no step left no project above is found
pub no_steps : (steps : ℕ) (projects : List ProjectRow) (project : ProjectRow) → steps ≡ 0 → above_within steps projects project ≡ []
unfolding above_within
no_steps zero projects project none = refl
no_steps (suc steps) projects project none = absurd (omega arith)

-- above a project with no parent there is none
pub none_above : (steps : ℕ) (projects : List ProjectRow) (project : ProjectRow) → None ≡ parent_of projects project →
    above_within steps projects project ≡ []
unfolding above_within
none_above zero projects project none = refl
none_above (suc steps) projects project none = ap (with_higher (above_within steps projects)) (sym none)

-- a step up
parent_above : (steps : ℕ) (projects : List ProjectRow) (project parent : ProjectRow) → Some parent ≡ parent_of projects project →
    above_within (suc steps) projects project ≡ parent ∷ above_within steps projects parent
unfolding above_within
parent_above steps projects project parent some = ap (with_higher (above_within steps projects)) (sym some)

pub step_up : (steps next : ℕ) (projects : List ProjectRow) (project parent : ProjectRow) → steps ≡ suc next → Some parent ≡ parent_of projects project →
    above_within steps projects project ≡ parent ∷ above_within next projects parent
step_up steps next projects project parent more some = ap (λ n. above_within n projects project) more ∙ parent_above next projects project parent some

-- what is found in a list, by its first item
pub found_here : {X : Type 0} (test : X → Bool) (xs rest : List X) (x : X) → xs ≡ x ∷ rest → test x ≡ true → find test xs ≡ Some x
found_here test xs rest x is passes = ap (find test) is ∙ rw passes refl

pub found_behind : {X : Type 0} (test : X → Bool) (xs rest : List X) (x : X) → xs ≡ x ∷ rest → test x ≡ false → find test xs ≡ find test rest
found_behind test xs rest x is fails = ap (find test) is ∙ rw fails refl

-- one more item is behind those that were gathered
pub gathered : {X Y : Type 0} (f : X → Y) (ys : List Y) (xs rest : List X) (x : X) → xs ≡ x ∷ rest →
    (ys ++ f x ∷ []) ++ map f rest ≡ ys ++ map f xs
gathered f ys xs rest x is = append_assoc ys (f x ∷ []) (map f rest) ∙ ap (λ zs. ys ++ map f zs) (sym is)
