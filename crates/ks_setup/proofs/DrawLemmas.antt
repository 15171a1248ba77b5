-- How the draws of one desk follow one another.
use Rattle.std.proofs.Common.{◌≡◌, ℕ, suc, ◌+◌, ◌*◌, ◌<◌, ◌≤◌, List, [], ◌∷◌, ◌++◌, length, take, drop, Some, Ok, Err, refl, sym, ap, subst, ◌∙◌, arith, append_assoc, append-nil, length-append}
use Rattle.std.specs.Prelude.{Result}
use Rattle.std.specs.List.{concat}
use Rattle.std.proofs.lemmas.List.{replicate-append-replicate, take-append-drop}
use Rattle.std.proofs.lemmas.List.Folds.{concat-append}
use Rattle.ks_outside.specs.Counts.{Rose}
use Rattle.ks_outside.proofs.CallLemmas.{makes_both, makes_none}
use Rattle.ks_outside.specs.declared.desk_call.DeskCall.TheVariants as call
use Rattle.ks_outside.specs.Desks.{DeskState, Makes}
use Rattle.ks_setup.specs.declared.derive.DrawFault.TheVariants.{Random, Memory}
use Rattle.ks_setup.specs.Openings.{Drew, salt_calls}
use Rattle.ks_setup.specs.Steps.{DrawsSalts}

module _ {Link : Type 0} where
  pub drew_nothing : (desk : DeskState Link) → Drew desk desk [] 0
  drew_nothing desk = record { told = λ bytes is. (bytes, refl, is); kept = refl; count = omega arith; salts = 0; whole = refl; calls = makes_none desk.calls }

  calls_more : (one other failed : ℕ) (a b c : DeskState Link) → Makes (salt_calls (one + 0)) a.calls b.calls → Makes (salt_calls (other + failed)) b.calls c.calls
      → Makes (salt_calls ((one + other) + failed)) a.calls c.calls
  calls_more one other failed a b c first second =
      let whole : (one + 0) + (other + failed) ≡ (one + other) + failed = omega arith in
      let both = makes_both (salt_calls (one + 0)) (salt_calls (other + failed)) a.calls b.calls c.calls first second in
      subst (λ n. Makes (salt_calls n) a.calls c.calls) whole
      (subst (λ l. Makes l a.calls c.calls) (replicate-append-replicate (one + 0) (other + failed) (call.Fill 16)) both)

  pub drew_more : (a b c : DeskState Link) (front back : List ℕ) (failed : ℕ) → Drew a b front 0 → Drew b c back failed → Drew a c (front ++ back) failed
  drew_more a b c front back failed first second = record {
    told = λ bytes is.
        let one = first.told bytes is in
        let two = second.told one.0 one.2 in
        (two.0, one.1 ∙ ap (λ rest. front ++ rest) two.1 ∙ sym (append_assoc front back two.0), two.2);
    kept = rw (second.kept, first.kept) refl;
    count = omega (arith, first.count, second.count);
    salts = first.salts + second.salts;
    whole = rw (length-append front back) (omega (arith, first.whole, second.whole));
    calls = calls_more first.salts second.salts failed a b c first.calls second.calls;
  }

  -- a desk that filled the piece of a salt gave the bytes that the piece holds now
  pub drew_piece : (old new : DeskState Link) (piece : List ℕ)
      → ((bytes : List ℕ) → old.random ≡ Some bytes
      → (length piece ≤ length bytes) × (piece ≡ take (length piece) bytes) × (new.random ≡ Some (drop (length piece) bytes)))
      → new ≡ record old { random = new.random; fill_faults = new.fill_faults; calls = new.calls } → old.fill_faults ≤ new.fill_faults
      → length piece ≡ 16 → Makes (call.Fill 16 ∷ []) old.calls new.calls → Drew old new piece 0
  drew_piece old new piece told kept count whole calls = record {
    told = λ bytes is.
        let filled = told bytes is in (
          drop (length piece) bytes,
          sym (take-append-drop (length piece) bytes) ∙ ap (λ front. front ++ drop (length piece) bytes) (sym filled.1),
          filled.2,
        );
    kept = kept;
    count = count;
    salts = 1;
    whole = omega (arith, whole);
    calls = calls;
  }

  -- and one that did not fill it gave none
  pub drew_failed : (old new : DeskState Link) → ((bytes : List ℕ) → old.random ≡ Some bytes → new.random ≡ Some bytes)
      → new ≡ record old { random = new.random; fill_faults = new.fill_faults; calls = new.calls } → old.fill_faults ≤ new.fill_faults
      → Makes (call.Fill 16 ∷ []) old.calls new.calls → Drew old new [] 1
  drew_failed old new told kept count calls = record {
    told = λ bytes is. (bytes, refl, told bytes is);
    kept = kept;
    count = count;
    salts = 0;
    whole = refl;
    calls = calls;
  }

pub rose_later : (a b c : ℕ) → a ≤ b → Rose b c → Rose a c
rose_later a b c le rose = omega arith

concat_more : (salts : List (List ℕ)) (salt : List ℕ) → concat (salts ++ salt ∷ []) ≡ concat salts ++ salt
concat_more salts salt = concat-append salts (salt ∷ []) ∙ ap (λ last. concat salts ++ last) (append-nil salt)

-- the first of so many salts, which a desk gave
pub record Drawing {Link : Type 0} (count number : ℕ) (salts : List (List ℕ)) (old new : DeskState Link) : Type 0 where
  pub counted : length salts ≡ number
  pub within : number ≤ count
  pub whole : length (concat salts) ≡ 16 * number
  pub drew : Drew old new (concat salts) 0

pub drawing_none : {Link : Type 0} (count : ℕ) (desk : DeskState Link) → Drawing count 0 [] desk desk
drawing_none count desk = record { counted = refl; within = omega arith; whole = refl; drew = drew_nothing desk }

pub drawing_more : {Link : Type 0} (count number : ℕ) (salts : List (List ℕ)) (salt : List ℕ) (old mid new : DeskState Link)
    → number < count → Drawing count number salts old mid
    → ((drawn : List ℕ) × (length drawn ≡ 16) × (salt ≡ drawn) × Drew mid new drawn 0)
    → Drawing count (number + 1) (salts ++ salt ∷ []) old new
drawing_more count number salts salt old mid new more h draw =
    let long : length salt ≡ 16 = ap length draw.2 ∙ draw.1 in
    let drew : Drew mid new salt 0 = subst (λ drawn. Drew mid new drawn 0) (sym draw.2) draw.3 in
    let both : Drew old new (concat salts ++ salt) 0 = drew_more old mid new (concat salts) salt 0 h.drew drew in
    record {
      counted = rw (length-append salts (salt ∷ [])) (omega (arith, h.counted));
      within = omega (arith, more);
      whole = rw (concat_more salts salt, length-append (concat salts) salt) (omega (arith, h.whole, long));
      drew = subst (λ drawn. Drew old new drawn 0) (sym (concat_more salts salt)) both;
    }

-- the exits

pub drawing_failed : {Link : Type 0} (count number : ℕ) (salts : List (List ℕ)) (old mid new : DeskState Link)
    → number < count → Drawing count number salts old mid → (0 < 16) × Drew mid new [] 1 × Rose mid.fill_faults new.fill_faults
    → DrawsSalts count old new (Err Random)
drawing_failed count number salts old mid new more h failed = (
  concat salts ++ [],
  (number, more, ap length (append-nil (concat salts)) ∙ h.whole),
  drew_more old mid new (concat salts) [] 1 h.drew failed.1,
  rose_later old.fill_faults mid.fill_faults new.fill_faults h.drew.count failed.2,
)

-- one salt more was drawn, and found no memory
pub drawing_full : {Link : Type 0} (count number : ℕ) (salts : List (List ℕ)) (old mid new : DeskState Link) (drawn : List ℕ)
    → Drawing count number salts old mid → Drew mid new drawn 0 → DrawsSalts count old new (Err Memory)
drawing_full count number salts old mid new drawn h drew = (concat salts ++ drawn, drew_more old mid new (concat salts) drawn 0 h.drew drew)

pub drawing_end : {Link : Type 0} (count number : ℕ) (salts : List (List ℕ)) (old new : DeskState Link)
    → count ≤ number → Drawing count number salts old new → DrawsSalts count old new (Ok salts)
drawing_end count number salts old new over h =
    (omega (arith, h.counted, h.within, over), omega (arith, h.whole, h.within, over), h.drew)
