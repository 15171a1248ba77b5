-- What a reading gives, or the first fault that it meets.
use Rattle.std.specs.Borrow.{Bor}
use Rattle.std.specs.Prelude.{◌≡◌, ℕ, List, Result, Ok, Err}
use Rattle.ks_base.specs.declared.shapes.ShapeFault.{ShapeFault}
use Rattle.ks_base.specs.declared.shapes.ShapeRefusal.{ShapeRefusal}
use Rattle.ks_base.specs.declared.shapes.ShapeRefusal.TheVariants as refusal
use Rattle.ks_shape.specs.declared.misfit.Misfit.{Misfit}
use Rattle.ks_shape.specs.declared.misfit.Unread.{Unread}
use Rattle.ks_shape.specs.declared.misfit.Unread.TheVariants as unread

-- an answer is what the definition gives, or there was no memory
abbrev pub Reads : {A : Type 0} → Result A ShapeRefusal → Result A ShapeFault → Type 0
Reads (Ok a) said = said ≡ Ok a
Reads (Err (refusal.Shape fault)) said = said ≡ Err fault
Reads (Err refusal.Memory) said = Unit {0}

-- an answer is this fault, or there was no memory
abbrev pub Refuses : {A : Type 0} → Result A ShapeRefusal → ShapeFault → Type 0
Refuses (Ok a) fault = ⊥
Refuses (Err (refusal.Shape said)) fault = said ≡ fault
Refuses (Err refusal.Memory) fault = Unit {0}

-- an answer is a view of what the definition gives
abbrev pub ReadsBy : {X A : Type 0} → (X → A) → Result X ShapeRefusal → Result A ShapeFault → Type 0
ReadsBy view (Ok x) said = said ≡ Ok (view x)
ReadsBy view (Err (refusal.Shape fault)) said = said ≡ Err fault
ReadsBy view (Err refusal.Memory) said = Unit {0}

-- the same of one value, whose path is not known yet
abbrev pub Fits : {A : Type 0} → Result A Unread → Result A Misfit → Type 0
Fits (Ok a) said = said ≡ Ok a
Fits (Err (unread.Misfit misfit)) said = said ≡ Err misfit
Fits (Err unread.Memory) said = Unit {0}

abbrev pub same_text : {F : Type 0} → Result (Bor (List ℕ)) F → Result (List ℕ) F
same_text (Ok text) = Ok text.now
same_text (Err fault) = Err fault
