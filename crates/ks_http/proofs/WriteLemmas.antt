-- How bytes pass through a writer that holds some back.
use Rattle.std.proofs.Common.{◌≡◌, ℕ, suc, ◌+◌, ◌<◌, List, [], ◌∷◌, ◌++◌, length, take, drop, get_or, flat_map, drop-cons, Option, Some, Result, Ok, Err, IsErr, refl, sym, ap, ap₂, ◌∙◌, subst, append_assoc, append-nil}
use Rattle.std.proofs.lemmas.List.{take-append-drop, take_more}
use Rattle.std.proofs.lemmas.List.Concat.{flat_map-append}
use Rattle.ks_outside.specs.Streams.{Begins, Wrote}
use Rattle.ks_http.specs.steps.Writes.{Passes, Puts}

-- front ++ h' is what was pending, and so is what stands before more
whole_on : (front part rest h h' a b : List ℕ) → front ++ h' ≡ h ++ a → part ++ rest ≡ h' ++ b → (front ++ part) ++ rest ≡ h ++ (a ++ b)
whole_on front part rest h h' a b e f =
    append_assoc front part rest ∙ (ap (λ l. front ++ l) f ∙ (sym (append_assoc front h' b) ∙ (ap (λ l. l ++ b) e ∙ append_assoc h a b)))

passes_on : {T E : Type 0} (r : Result T E) (h h' held a b front written : List ℕ) (after : Option (List ℕ)) → front ++ h' ≡ h ++ a →
    Passes (h' ++ b) held (written ++ front) after r → Passes (h ++ (a ++ b)) held written after r
passes_on (Ok done) h h' held a b front written after e p =
    (front ++ p.0, whole_on front p.0 held h h' a b e p.1, p.2 ∙ ap Some (append_assoc written front p.0))
passes_on (Err fault) h h' held a b front written after e p =
    (front ++ p.0, (p.1.0, whole_on front p.0 p.1.0 h h' a b e p.1.1), p.2 ∙ ap Some (append_assoc written front p.0))

-- bytes were put, and then more
pub and_then : {T U E F : Type 0} {done : T} {h a h' b h'' : List ℕ} {w w' w'' : Option (List ℕ)} {r : Result U F} →
    Puts {T = T} {E = E} h a h' w w' (Ok done) → Puts h' b h'' w' w'' r → Puts h (a ++ b) h'' w w'' r
and_then {h = h} {a = a} {h' = h'} {b = b} {h'' = h''} {w'' = w''} {r = r} p q = record {
  told = λ written is. let f = p.told written is in passes_on r h h' h'' a b f.0 written w'' f.1 (q.told (written ++ f.0) f.2);
}

stopped_on : {T E : Type 0} (r : Result T E) (bytes held written front rest : List ℕ) (after : Option (List ℕ)) → IsErr r → front ++ rest ≡ bytes →
    after ≡ Some (written ++ front) → Passes bytes held written after r
stopped_on (Ok done) bytes held written front rest after failed e is = cc
stopped_on (Err fault) bytes held written front rest after failed e is = (front, (rest, e), is)

-- after a fault nothing more is put
pub stops : {T U E F : Type 0} {e : E} {h a h' h'' : List ℕ} {w w' : Option (List ℕ)} {r : Result U F} (b : List ℕ) → IsErr r →
    Puts {T = T} h a h' w w' (Err e) → Puts h (a ++ b) h'' w w' r
stops {h = h} {a = a} {h'' = h''} {w' = w'} {r = r} b failed p = record {
  told = λ written is. let f = p.told written is in
      stopped_on r (h ++ (a ++ b)) h'' written f.0 (f.1.0 ++ b) w' failed
      (sym (append_assoc f.0 f.1.0 b) ∙ (ap (λ l. l ++ b) f.1.1 ∙ append_assoc h a b)) f.2;
}

-- all is held
pub holds : {T E : Type 0} (done : T) (h a : List ℕ) (w : Option (List ℕ)) → Puts {T = T} {E = E} h a (h ++ a) w w (Ok done)
holds done h a w = record { told = λ written is. ([], refl, is ∙ ap Some (sym (append-nil written))) }

-- what was held and the bytes behind it were written in one
pub wrote : {T E : Type 0} (r : Result T E) (h a all : List ℕ) (w w' : Option (List ℕ)) → all ≡ h ++ a → Wrote all w w' r → Puts h a [] w w' r
wrote (Ok done) h a all w w' e is = record {
  told = λ written told. (all, append-nil all ∙ e, is written told);
}
wrote (Err fault) h a all w w' e is = record {
  told = λ written told. let f = is written told in (f.0, (f.1.0, f.1.1 ∙ e), f.2);
}

-- a piece was cut in two
pub of_halves : {T E : Type 0} {r : Result T E} {h h' front rest : List ℕ} {w w' : Option (List ℕ)} (n : ℕ) (bytes : List ℕ) →
    front ≡ take n bytes → rest ≡ drop n bytes → Puts h (front ++ rest) h' w w' r → Puts h bytes h' w w' r
of_halves {r = r} {h = h} {h' = h'} {w = w} {w' = w'} n bytes e f p =
    subst (λ l. Puts h l h' w w' r) (ap₂ (λ a b. a ++ b) e f ∙ take-append-drop n bytes) p

-- pieces one behind the other, up to one of them
pub next_piece : {X T E : Type 0} {done done' : T} {h h' h'' : List ℕ} {w w' w'' : Option (List ℕ)} (f : X → List ℕ) (xs : List X) (k : ℕ) (x d : X) → x ≡ get_or xs k d → k < length xs →
    Puts {T = T} {E = E} h (flat_map f (take k xs)) h' w w' (Ok done) → Puts {T = T} {E = E} h' (f x) h'' w' w'' (Ok done') →
    Puts {T = T} {E = E} h (flat_map f (take (k + 1) xs)) h'' w w'' (Ok done')
next_piece {E = E} {done' = done'} {h = h} {h'' = h''} {w = w} {w'' = w''} f xs k x d is within p q =
    let e : flat_map f (take k xs) ++ f x ≡ flat_map f (take (k + 1) xs) =
    ap (λ y. flat_map f (take k xs) ++ y) (ap f is ∙ sym (append-nil (f (get_or xs k d))))
    ∙ (sym (flat_map-append f (take k xs) (get_or xs k d ∷ [])) ∙ ap (flat_map f) (sym (take_more xs k d within))) in
    subst (λ l. Puts {E = E} h l h'' w w'' (Ok done')) e (and_then p q)

pub stops_at : {X T U E F : Type 0} {done : T} {e : E} {h h' h'' h3 : List ℕ} {w w' w'' : Option (List ℕ)} {r : Result U F} (f : X → List ℕ) (xs : List X) (k : ℕ) (x d : X) → x ≡ get_or xs k d → k < length xs →
    IsErr r → Puts {T = T} {E = E} h (flat_map f (take k xs)) h' w w' (Ok done) → Puts {T = T} {E = E} h' (f x) h'' w' w'' (Err e) →
    Puts h (flat_map f xs) h3 w w'' r
stops_at {h = h} {h3 = h3} {w = w} {w'' = w''} {r = r} f xs k x d is within failed p q =
    let e : flat_map f (take k xs) ++ (f x ++ flat_map f (drop (suc k) xs)) ≡ flat_map f xs =
    ap (λ y. flat_map f (take k xs) ++ (f y ++ flat_map f (drop (suc k) xs))) is
    ∙ (ap (λ ys. flat_map f (take k xs) ++ flat_map f ys) (sym (drop-cons xs k d within))
    ∙ (sym (flat_map-append f (take k xs) (drop k xs)) ∙ ap (flat_map f) (take-append-drop k xs))) in
    subst (λ l. Puts h l h3 w w'' r) e (and_then p (stops (flat_map f (drop (suc k) xs)) failed q))

-- what was held is written last
pub ends : {T E : Type 0} {done : T} {bytes held : List ℕ} {w w' w'' : Option (List ℕ)} → Puts {T = T} {E = E} [] bytes held w w' (Ok done) →
    ((before : List ℕ) → w' ≡ Some before → w'' ≡ Some (before ++ held)) →
    (before : List ℕ) → w ≡ Some before → w'' ≡ Some (before ++ bytes)
ends {held = held} p last before is =
    let f = p.told before is in
    last (before ++ f.0) f.2 ∙ ap Some (append_assoc before f.0 held ∙ ap (λ l. before ++ l) f.1)

pub ends_at_once : {T E : Type 0} {fault : E} {bytes held : List ℕ} {w w' : Option (List ℕ)} (more : List ℕ) → Puts {T = T} [] bytes held w w' (Err fault) →
    (before : List ℕ) → w ≡ Some before → (part : List ℕ) × Begins part (bytes ++ more) × (w' ≡ Some (before ++ part))
ends_at_once more p before is =
    let f = p.told before is in
    (f.0, (f.1.0 ++ more, sym (append_assoc f.0 f.1.0 more) ∙ ap (λ l. l ++ more) f.1.1), f.2)

pub ends_early : {T E : Type 0} {done : T} {bytes held : List ℕ} {w w' w'' : Option (List ℕ)} → Puts {T = T} {E = E} [] bytes held w w' (Ok done) →
    ((before : List ℕ) → w' ≡ Some before → (part : List ℕ) × Begins part held × (w'' ≡ Some (before ++ part))) →
    (before : List ℕ) → w ≡ Some before → (part : List ℕ) × Begins part bytes × (w'' ≡ Some (before ++ part))
ends_early {held = held} p last before is =
    let f = p.told before is in
    let g = last (before ++ f.0) f.2 in
    (f.0 ++ g.0, (g.1.0, append_assoc f.0 g.0 g.1.0 ∙ (ap (λ l. f.0 ++ l) g.1.1 ∙ f.1)), g.2 ∙ ap Some (append_assoc before f.0 g.0))
