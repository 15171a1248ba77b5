-- How the commands on a folder of keys end.
use Rattle.std.proofs.Common.{◌≡◌, ℕ, ◌+◌, ◌<◌, ◌≤◌, List, [], ◌∷◌, ◌++◌, length, take, drop, get_or, Option, Some, None, Result, Ok, Err, IfErr, refl, sym, ap, subst, ◌∙◌, arith, inl, inr, codes, lit≤, add-one, append_assoc}
use Rattle.std.proofs.Math.Seq.{drop-cons}
use Rattle.std.proofs.lemmas.List.{drop-take, drop_all, take-take}
use Rattle.std.specs.Prelude.{Vec, decimal}
use Rattle.std.specs.declared.alloc.Global.{Global}
use Rattle.ks_base.specs.declared.faults.KeysFault.{KeysFault}
use Rattle.ks_base.specs.declared.faults.KeysFault.TheVariants.{Failed, NoKeys, BadKey, TooMany, AlreadySet, IndexEnd, Memory}
use Rattle.ks_base.specs.declared.key.Key.{Key}
use Rattle.ks_outside.specs.Files.{KeyFile, indices_of}
use Rattle.ks_keyfiles.specs.Setups.{SetsUpFiles}
use Rattle.ks_keyfiles.specs.Rotations.{IsRotating, RotatesFiles, excess, rotated, rotation_fault, staged_anew}
use Rattle.ks_keyfiles.proofs.RemovalLemmas.{left_by}
use Rattle.ks_commands.specs.declared.fault.Fault.{Fault}
use Rattle.ks_commands.specs.declared.fault.Fault.TheVariants as fault
use Rattle.ks_commands.specs.KeyFolders.{EndsRotation, EndsSetup, HasBegun, HasDrawn, Outside, indices_text, key_from, keys_line, primary_from, staged_from}
use Rattle.ks_commands.specs.steps.KeyCalls.{IsSayingFault, Says, named}

-- the keys of the bytes that were drawn

pub record Drawn (count : ℕ) (random bytes : List ℕ) : Type 0 where
  pub long : length bytes ≡ count
  pub enough : length bytes ≤ length random
  pub are : bytes ≡ take (length bytes) random

whole : (count : ℕ) (random bytes : List ℕ) → Drawn count random bytes → bytes ≡ take count random
whole count random bytes d = d.are ∙ ap (λ n. take n random) d.long

pub all_are : (random bytes : List ℕ) → Drawn 32 random bytes → key_from bytes ≡ staged_from random
all_are random bytes d = ap key_from (whole 32 random bytes d)

pub first_are : (random bytes front : List ℕ) → Drawn 64 random bytes → front ≡ take 32 bytes → key_from front ≡ staged_from random
first_are random bytes front d is = ap key_from (is ∙ ap (take 32) (whole 64 random bytes d) ∙ take-take 32 64 random (lit≤ tt))

pub others_are : (random bytes back : List ℕ) → Drawn 64 random bytes → back ≡ drop 32 bytes → key_from back ≡ primary_from random
others_are random bytes back d is = ap key_from (is ∙ ap (drop 32) (whole 64 random bytes d) ∙ drop-take 32 32 random)

pub has_drawn : (count : ℕ) (random bytes : List ℕ) (now : Option (List ℕ)) → Drawn count random bytes → now ≡ Some (drop (length bytes) random) → HasDrawn count random now
has_drawn count random bytes now d left = (omega (arith, d.long, d.enough), left ∙ ap (λ n. Some (drop n random)) d.long)

-- the line

next_index : (indices : List ℕ) (k : ℕ) → k < length indices →
    indices_text (drop k indices) ≡ 32 ∷ (decimal (get_or indices k 0) ++ indices_text (drop (k + 1) indices))
unfolding indices_text
next_index indices k within = ap indices_text (drop-cons indices k 0 within) ∙ rw add-one refl

pub line_more : (line blank indices : List ℕ) (k : ℕ) → k < length indices → blank ≡ 32 ∷ [] → line ++ (indices_text (drop k indices) ++ codes "\n") ≡ keys_line indices →
    ((line ++ blank) ++ decimal (get_or indices k 0)) ++ (indices_text (drop (k + 1) indices) ++ codes "\n") ≡ keys_line indices
line_more line blank indices k within is so_far =
    let next = next_index indices k within in
    let number = decimal (get_or indices k 0) in
    let rest = indices_text (drop (k + 1) indices) in
    append_assoc (line ++ blank) number (rest ++ codes "\n")
    ∙ append_assoc line blank (number ++ (rest ++ codes "\n"))
    ∙ ap (λ b. line ++ (b ++ (number ++ (rest ++ codes "\n")))) is
    ∙ ap (λ l. line ++ (32 ∷ l)) (sym (append_assoc number rest (codes "\n")))
    ∙ ap (λ l. line ++ (l ++ codes "\n")) (sym next)
    ∙ so_far

pub line_whole : (line indices : List ℕ) (k : ℕ) → length indices ≤ k → line ++ (indices_text (drop k indices) ++ codes "\n") ≡ keys_line indices →
    line ++ codes "\n" ≡ keys_line indices
unfolding indices_text
line_whole line indices k end so_far = ap (λ l. line ++ (indices_text l ++ codes "\n")) (sym (drop_all k indices end)) ∙ so_far

-- a setup

pub setup_said : (random : List ℕ) (files : List KeyFile) (before : List ℕ) (now : Outside) (r : Result (Unit {0}) Fault) → HasDrawn 64 random now.random
    → SetsUpFiles (staged_from random) (primary_from random) files now.files (Ok tt) → Says (codes "keys 0 1\n") before now.written r → EndsSetup random files before now r
setup_said random files before now (Ok done) drawn made says = (drawn, made.0, made.1, says)
setup_said random files before now (Err fault.Write) drawn made says = (drawn, made.0, made.1, says)
setup_said random files before now (Err fault.Memory) drawn made says = (inr drawn, inr (made.0, inr (inl made.1)), says)
setup_said random files before now (Err fault.Usage) drawn made says = absurd says
setup_said random files before now (Err fault.BadPassword) drawn made says = absurd says
setup_said random files before now (Err fault.Read) drawn made says = absurd says
setup_said random files before now (Err (fault.BadLine n)) drawn made says = absurd says
setup_said random files before now (Err fault.Folder) drawn made says = absurd says
setup_said random files before now (Err (fault.Keys reason)) drawn made says = absurd says
setup_said random files before now (Err (fault.Opening reason)) drawn made says = absurd says
setup_said random files before now (Err (fault.State reason)) drawn made says = absurd says
setup_said random files before now (Err (fault.Keeper why)) drawn made says = absurd says
setup_said random files before now (Err fault.OtherOpening) drawn made says = absurd says
setup_said random files before now (Err (fault.BadEntry n)) drawn made says = absurd says
setup_said random files before now (Err fault.Desk) drawn made says = absurd says

pub setup_refused : (random : List ℕ) (files : List KeyFile) (before : List ℕ) (now : Outside) (fault : KeysFault) → HasDrawn 64 random now.random
    → SetsUpFiles (staged_from random) (primary_from random) files now.files (Err fault) → now.written ≡ Some before → EndsSetup random files before now (Err (named fault))
setup_refused random files before now Failed drawn left kept = (drawn, left, kept)
setup_refused random files before now Memory drawn left kept = (inr drawn, left, kept)
setup_refused random files before now AlreadySet drawn left kept = (drawn, left.0, left.1, kept)
setup_refused random files before now NoKeys drawn left kept = absurd left
setup_refused random files before now (BadKey index) drawn left kept = absurd left
setup_refused random files before now TooMany drawn left kept = absurd left
setup_refused random files before now IndexEnd drawn left kept = absurd left

-- the keys are those of the bytes
pub keys_are : (random : List ℕ) (files : List KeyFile) (now : Option (List KeyFile)) (r : Result (Unit {0}) KeysFault) (staged primary : Key) → staged ≡ staged_from random
    → primary ≡ primary_from random → SetsUpFiles staged primary files now r → SetsUpFiles (staged_from random) (primary_from random) files now r
keys_are random files now r staged primary first second made =
    subst (λ (key : Key). SetsUpFiles (staged_from random) key files now r) second (subst (λ (key : Key). SetsUpFiles key primary files now r) first made)

-- a rotation

pub key_is : (random : List ℕ) (max : ℕ) (files : List KeyFile) (now : Option (List KeyFile)) (r : Result (Vec ℕ Global) KeysFault) (new : Key) → new ≡ staged_from random
    → RotatesFiles new max files now r → RotatesFiles (staged_from random) max files now r
key_is random max files now r new is made = subst (λ (key : Key). RotatesFiles key max files now r) is made

rotated_stands : (new : Key) (max : ℕ) (files : List KeyFile) (now : Option (List KeyFile)) → rotation_fault (indices_of files) ≡ None → now ≡ Some (rotated new max files)
    → IsRotating new max files now
rotated_stands new max files now none is =
    let n : ℕ = excess max (staged_anew new files) in
    elim (left_by n n (staged_anew new files) now (omega arith) is) [
      | inl staged ↦ inr (none, inr (inl staged))
      | inr later ↦ inr (none, inr (inr later))
    ]

pub rotation_said : (max : ℕ) (random : List ℕ) (files : List KeyFile) (before : List ℕ) (now : Outside) (indices : Vec ℕ Global) (r : Result (Unit {0}) Fault) → HasDrawn 32 random now.random
    → RotatesFiles (staged_from random) max files now.files (Ok indices) → Says (keys_line indices.items) before now.written r → EndsRotation max random files before now r
rotation_said max random files before now indices (Ok done) drawn made says =
    (drawn, made.0, made.1, says ∙ ap (λ l. Some (before ++ keys_line l)) made.2)
rotation_said max random files before now indices (Err fault.Write) drawn made says =
    (drawn, made.0, made.1, subst (λ l. HasBegun (keys_line l) before now.written) made.2 says)
rotation_said max random files before now indices (Err fault.Memory) drawn made says = (inr drawn, rotated_stands (staged_from random) max files now.files made.0 made.1, says)
rotation_said max random files before now indices (Err fault.Usage) drawn made says = absurd says
rotation_said max random files before now indices (Err fault.BadPassword) drawn made says = absurd says
rotation_said max random files before now indices (Err fault.Read) drawn made says = absurd says
rotation_said max random files before now indices (Err (fault.BadLine n)) drawn made says = absurd says
rotation_said max random files before now indices (Err fault.Folder) drawn made says = absurd says
rotation_said max random files before now indices (Err (fault.Keys reason)) drawn made says = absurd says
rotation_said max random files before now indices (Err (fault.Opening reason)) drawn made says = absurd says
rotation_said max random files before now indices (Err (fault.State reason)) drawn made says = absurd says
rotation_said max random files before now indices (Err (fault.Keeper why)) drawn made says = absurd says
rotation_said max random files before now indices (Err fault.OtherOpening) drawn made says = absurd says
rotation_said max random files before now indices (Err (fault.BadEntry n)) drawn made says = absurd says
rotation_said max random files before now indices (Err fault.Desk) drawn made says = absurd says

-- a line that was not written is no fault of the folder or of the desk
pub says_no_folder : (r : Result (Unit {0}) Fault) → IfErr r IsSayingFault → r ≡ Err fault.Folder → ⊥
says_no_folder (Ok done) cause is = cc
says_no_folder (Err reason) cause is =
    let same : reason ≡ fault.Folder = cc in
    subst IsSayingFault same cause

pub says_no_desk : (r : Result (Unit {0}) Fault) → IfErr r IsSayingFault → r ≡ Err fault.Desk → ⊥
says_no_desk (Ok done) cause is = cc
says_no_desk (Err reason) cause is =
    let same : reason ≡ fault.Desk = cc in
    subst IsSayingFault same cause
