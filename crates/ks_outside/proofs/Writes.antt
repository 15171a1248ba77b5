-- How much of a piece was written.
use Rattle.std.proofs.Common.{◌≡◌, ℕ, List, [], ◌++◌, take, drop, Some, Option, ap, ◌∙◌, append_assoc, append-nil}
use Rattle.std.proofs.lemmas.List.{take-append-drop}

pub split_more : (n : ℕ) (front left rest piece : List ℕ) → front ++ left ≡ piece → rest ≡ drop n left →
    (front ++ take n left) ++ rest ≡ piece
split_more n front left rest piece whole is =
    append_assoc front (take n left) rest ∙ ap (λ xs. front ++ xs) (ap (λ xs. take n left ++ xs) is ∙ take-append-drop n left) ∙ whole

pub written_more : (written : Option (List ℕ)) (before front part : List ℕ) → written ≡ Some ((before ++ front) ++ part) →
    written ≡ Some (before ++ (front ++ part))
written_more written before front part is = is ∙ ap Some (append_assoc before front part)

pub written_none : (written : Option (List ℕ)) (before front : List ℕ) → written ≡ Some ((before ++ front) ++ []) →
    written ≡ Some (before ++ front)
written_none written before front is = is ∙ ap Some (append-nil (before ++ front))

pub written_zero : (n : ℕ) (written : Option (List ℕ)) (before front left : List ℕ) → n ≡ 0 →
    written ≡ Some ((before ++ front) ++ take n left) → written ≡ Some (before ++ front)
written_zero n written before front left zero is =
    written_none written before front (is ∙ ap (λ m. Some ((before ++ front) ++ take m left)) zero)
