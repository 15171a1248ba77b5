-- The steps of a writer, each behind the one before.
use Rattle.std.proofs.Common.{◌≡◌, ℕ, List, [], ◌∷◌, ◌++◌, map, flat_map, Option, Some, None, Result, Ok, Err, OnOk, option_to_list, refl, sym, ap, ◌∙◌, append_assoc, append-nil}
use Rattle.std.specs.List.{AllByRecursion}
use Rattle.std.proofs.lemmas.Grind.{flat_map-append}
use Rattle.json.specs.Lex.{tokens}
use Rattle.json.specs.Token.{Token, begin_array, begin_object, end_array, end_object, key}
use Rattle.json.specs.Print.{print, print_from}
use Rattle.json.specs.Tree.{items_tokens, members_tokens}
use Rattle.json.specs.Written.{Written, Writes}
use Rattle.serde_json.specs.Data.{Data}
use Rattle.serde_json.specs.Written.{items_outline, members_outline}
use Rattle.serde_json.proofs.Texts.{print-outline}
use Rattle.ks_render.specs.Values.{Entry, array_of, items_of, members_of, object_of}
use Rattle.ks_render.specs.Bodies.{text_of, tokens_of}
use Rattle.ks_render.specs.steps.Writing.{Adds, Enters, Lists, Tells, entry_tokens, value_tokens}

infixr 10 ◌>>◌
pub ◌>>◌ : {X : Type 0} {f : X → List Token} {a b c : Written} {xs ys : List X} → Adds f a b xs → Adds f b c ys → Adds f a c (xs ++ ys)
◌>>◌ {f = f} {a = a} {xs = xs} {ys = ys} x y = record {
  before = y.before ∙ x.before;
  tokens = y.tokens ∙ ap (λ ts. ts ++ flat_map f ys) x.tokens ∙ append_assoc a.tokens (flat_map f xs) (flat_map f ys)
      ∙ ap (λ ts. a.tokens ++ ts) (sym (flat_map-append f xs ys));
}

-- the last step may find no memory
pub ending : {X : Type 0} {f : X → List Token} {E : Type 0} {a b : Written} {xs : List X} (c : Written) (ys : List X) (r : Result (Unit {0}) E)
    → Adds f a b xs → OnOk r (Adds f b c ys) → OnOk r (Adds f a c (xs ++ ys))
ending c ys (Ok u) x y = x >> y
ending c ys (Err e) x y = tt

-- nothing
pub nothing : {X : Type 0} {f : X → List Token} (a : Written) → Adds f a a []
nothing a = record { before = refl; tokens = sym (append-nil a.tokens) }

-- a value of one token
pub scalar : {E : Type 0} {a b : Written} {t : Token} (v : Data) (r : Result (Unit {0}) E) → value_tokens v ≡ t ∷ [] → Writes r a b t → OnOk r (Tells a b v)
scalar {a = a} v (Ok u) same w = record { before = w.room.0; tokens = w.ok ∙ ap (λ ts. a.tokens ++ (ts ++ [])) (sym same) }
scalar v (Err e) same w = tt

-- a value under its name
pub entry : {E : Type 0} {a b c : Written} {k : List ℕ} {v : Data} {u : Unit {0}} → Writes {E = E} (Ok u) a b (key k) → Tells b c v → Enters a c ((k, v) ∷ [])
entry {a = a} {k = k} {v = v} w t = record {
  before = t.before ∙ w.room.0;
  tokens = t.tokens ∙ ap (λ ts. ts ++ (value_tokens v ++ [])) w.ok ∙ append_assoc a.tokens (key k ∷ []) (value_tokens v ++ []);
}

pub named : {E F : Type 0} {a b : Written} {k : List ℕ} {u : Unit {0}} (c : Written) (v : Data) (r : Result (Unit {0}) F)
    → Writes {E = E} (Ok u) a b (key k) → OnOk r (Tells b c v) → OnOk r (Enters a c ((k, v) ∷ []))
named c v (Ok u) w t = entry w t
named c v (Err e) w t = tt

-- ---- objects and arrays

members : (entries : List Entry) → members_tokens (members_outline (members_of entries)) ≡ flat_map entry_tokens entries ++ end_object ∷ []
members [] = refl
members (e ∷ es) =
    ap (λ ts. key e.0 ∷ (value_tokens e.1 ++ ts)) (members es)
    ∙ ap (λ ts. key e.0 ∷ ts) (sym (append_assoc (value_tokens e.1) (flat_map entry_tokens es) (end_object ∷ [])))

items : (values : List Data) → items_tokens (items_outline (items_of values)) ≡ flat_map value_tokens values ++ end_array ∷ []
items [] = refl
items (v ∷ vs) =
    ap (λ ts. value_tokens v ++ ts) (items vs)
    ∙ sym (append_assoc (value_tokens v) (flat_map value_tokens vs) (end_array ∷ []))

wrapped : (a inside : List Token) (first last : Token) → ((a ++ first ∷ []) ++ inside) ++ last ∷ [] ≡ a ++ first ∷ (inside ++ last ∷ [])
wrapped a inside first last = append_assoc (a ++ first ∷ []) inside (last ∷ []) ∙ append_assoc a (first ∷ []) (inside ++ last ∷ [])

pub object : {E F : Type 0} {a b c d : Written} {entries : List Entry} {u : Unit {0}} (r : Result (Unit {0}) F)
    → Writes {E = E} (Ok u) a b begin_object → Enters b c entries → Writes r c d end_object → OnOk r (Tells a d (object_of entries))
object {a = a} {entries = entries} (Ok u) start inside end =
    let all : List Token = flat_map entry_tokens entries in
    record {
      before = end.room.0 ∙ inside.before ∙ start.room.0;
      tokens = end.ok ∙ ap (λ ts. ts ++ end_object ∷ []) (inside.tokens ∙ ap (λ ts. ts ++ all) start.ok) ∙ wrapped a.tokens all begin_object end_object
          ∙ ap (λ ts. a.tokens ++ begin_object ∷ ts) (sym (members entries) ∙ sym (append-nil (members_tokens (members_outline (members_of entries)))));
    }
object (Err e) start inside end = tt

pub array : {E F : Type 0} {a b c d : Written} {values : List Data} {u : Unit {0}} (r : Result (Unit {0}) F)
    → Writes {E = E} (Ok u) a b begin_array → Lists b c values → Writes r c d end_array → OnOk r (Tells a d (array_of values))
array {a = a} {values = values} (Ok u) start inside end =
    let all : List Token = flat_map value_tokens values in
    record {
      before = end.room.0 ∙ inside.before ∙ start.room.0;
      tokens = end.ok ∙ ap (λ ts. ts ++ end_array ∷ []) (inside.tokens ∙ ap (λ ts. ts ++ all) start.ok) ∙ wrapped a.tokens all begin_array end_array
          ∙ ap (λ ts. a.tokens ++ begin_array ∷ ts) (sym (items values) ∙ sym (append-nil (items_tokens (items_outline (items_of values)))));
    }
array (Err e) start inside end = tt

-- ---- a loop over a list

-- what is written, and what is still to come, is the whole list
pub record IsListing {X : Type 0} (value : X → Data) (can : X → Type 0) (start now : Written) (rest all : List X) : Type 0 where
  pub before : now.before ≡ start.before
  pub tokens : now.tokens ++ flat_map (λ x. value_tokens (value x)) rest ≡ start.tokens ++ begin_array ∷ flat_map (λ x. value_tokens (value x)) all
  pub tellable : AllByRecursion can rest

mapped : {X : Type 0} (value : X → Data) (all : List X) → flat_map value_tokens (map value all) ≡ flat_map (λ x. value_tokens (value x)) all
mapped value [] = refl
mapped value (x ∷ xs) = ap (λ ts. value_tokens (value x) ++ ts) (mapped value xs)

pub listing_ended : {X F : Type 0} {value : X → Data} {can : X → Type 0} {s a b : Written} {all : List X} (r : Result (Unit {0}) F)
    → IsListing value can s a [] all → Writes r a b end_array → OnOk r (Tells s b (array_of (map value all)))
listing_ended {value = value} {s = s} {a = a} {all = all} (Ok u) l end =
    let whole : List Token = flat_map (λ x. value_tokens (value x)) all in
    record {
      before = end.room.0 ∙ l.before;
      tokens = end.ok ∙ ap (λ ts. ts ++ end_array ∷ []) (sym (append-nil a.tokens) ∙ l.tokens) ∙ append_assoc s.tokens (begin_array ∷ whole) (end_array ∷ [])
          ∙ ap (λ ts. s.tokens ++ begin_array ∷ (ts ++ end_array ∷ [])) (sym (mapped value all))
          ∙ ap (λ ts. s.tokens ++ begin_array ∷ ts) (sym (items (map value all)) ∙ sym (append-nil (items_tokens (items_outline (items_of (map value all))))));
    }
listing_ended (Err e) l end = tt

-- what has no moments is tellable
pub all_tellable : {X : Type 0} (xs : List X) → AllByRecursion (λ x. Unit {0}) xs
all_tellable [] = tt
all_tellable (x ∷ xs) = (tt, all_tellable xs)

-- ---- the text of what is written

pub text : {w v : Written} (body : Option Data) → w.before ≡ [] → w.tokens ≡ [] → Lists w v (option_to_list body) → v.before ++ print v.tokens ≡ text_of body
unfolding print_from
text None before none told = rw (told.before, before, told.tokens, none) refl
text (Some value) before none told =
    let same : value_tokens value ++ [] ≡ value_tokens value = append-nil (value_tokens value) in
    rw (told.before, before, told.tokens, none, same) (print-outline value)

told_tokens : {w v : Written} (body : Option Data) → w.tokens ≡ [] → Lists w v (option_to_list body) → v.tokens ≡ tokens_of body
told_tokens None none told = told.tokens ∙ ap (λ ts. ts ++ []) none
told_tokens (Some value) none told = told.tokens ∙ ap (λ ts. ts ++ (value_tokens value ++ [])) none ∙ append-nil (value_tokens value)

-- and it is read as what was written
pub read_back : {w v : Written} (body : Option Data) (made : List ℕ) → w.before ≡ [] → w.tokens ≡ [] → Lists w v (option_to_list body)
    → made ≡ v.before ++ print v.tokens → tokens (print v.tokens) ≡ v.tokens → tokens made ≡ tokens_of body
read_back {v = v} body made before none told is back =
    ap tokens (is ∙ ap (λ s. s ++ print v.tokens) (told.before ∙ before)) ∙ back ∙ told_tokens body none told
