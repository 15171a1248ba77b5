-- Ids of rows: how they are found, that they ascend as their rows do, and which rows they name.
use Rattle.std.proofs.Common.{◌≡◌, Bool, true, false, cond, ◌||◌, ◌&&◌, List, [], ◌∷◌, map, filter, refl, ap, ◌∙◌}
use Rattle.ks_base.specs.Rows.{Id, same, has_id}
use Rattle.ks_machine.specs.Changes.{is_id_of}

-- the ids of the rows that pass name these

and_true : (a r : Bool) → (a || r) ≡ ((a && true) || r)
and_true true r = refl
and_true false r = refl

and_false : (a r : Bool) → r ≡ ((a && false) || r)
and_false true r = refl
and_false false r = refl

named_by : {X : Type 0} (key : X → Id) (rows : List X) (row : X) (id : Id) (b : Bool) (rest : Bool) → has_id (map key rows) id ≡ rest →
    has_id (map key (cond b (row ∷ rows) rows)) id ≡ ((same (key row) id && b) || rest)
named_by key rows row id true rest e = ap (λ r. same (key row) id || r) e ∙ and_true (same (key row) id) rest
named_by key rows row id false rest e = e ∙ and_false (same (key row) id) rest

pub names_those : {X : Type 0} (key : X → Id) (test : X → Bool) (rows : List X) (id : Id) →
    has_id (map key (filter test rows)) id ≡ is_id_of key test rows id
names_those key test [] id = refl
names_those key test (row ∷ rows) id =
    named_by key (filter test rows) row id (test row) (is_id_of key test rows id) (names_those key test rows id)
