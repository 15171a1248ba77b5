-- Refusals, and the exits of a `?`.
use Rattle.std.proofs.Common.{◌≡◌, Ok, Err, sym, ap}
use Rattle.std.specs.Prelude.{Result, IsErrAnd}
use Rattle.ks_base.specs.declared.shapes.ShapeFault.{ShapeFault}
use Rattle.ks_base.specs.declared.shapes.ShapeRefusal.{ShapeRefusal}
use Rattle.ks_base.specs.declared.shapes.ShapeRefusal.TheVariants as refusal
use Rattle.ks_shape.specs.declared.misfit.Misfit.{Misfit}
use Rattle.ks_shape.specs.declared.misfit.Unread.{Unread}
use Rattle.ks_shape.specs.declared.misfit.Unread.TheVariants as unread
use Rattle.ks_shape.specs.Readings.{Fits, Reads, ReadsBy, Refuses}

-- a refusal is a reading that is the fault
pub refused : {A : Type 0} (r : Result A ShapeRefusal) (fault : ShapeFault) → Refuses r fault → Reads r (Err fault)
refused (Ok a) fault h = absurd h
refused (Err (refusal.Shape said)) fault h = ap Err (sym h)
refused (Err refusal.Memory) fault h = tt

pub refused_by : {X A : Type 0} (view : X → A) (r : Result X ShapeRefusal) (fault : ShapeFault) → Refuses r fault → ReadsBy view r (Err fault)
refused_by view (Ok x) fault h = absurd h
refused_by view (Err (refusal.Shape said)) fault h = ap Err (sym h)
refused_by view (Err refusal.Memory) fault h = tt

at_fault : {A B : Type 0} (e : ShapeRefusal) (part : Result A ShapeFault) (whole : Result B ShapeFault)
    → Reads {A = A} (Err e) part → ((fault : ShapeFault) → part ≡ Err fault → whole ≡ Err fault) → Reads {A = B} (Err e) whole
at_fault (refusal.Shape fault) part whole h stop = stop fault h
at_fault refusal.Memory part whole h stop = tt

-- where a part refuses, and the whole stops at its fault, the whole refuses
pub stops : {A B : Type 0} (out : Result B ShapeRefusal) (e : ShapeRefusal) (part : Result A ShapeFault) (whole : Result B ShapeFault)
    → IsErrAnd out (λ x. x ≡ e) → Reads {A = A} (Err e) part → ((fault : ShapeFault) → part ≡ Err fault → whole ≡ Err fault) → Reads out whole
stops (Ok b) e part whole h reads stop = absurd h
stops (Err x) e part whole h reads stop = rw h (at_fault e part whole reads stop)

-- a value that does not fit
pub unfit : {A : Type 0} (out : Result A Unread) (misfit : Misfit) (said : Result A Misfit)
    → IsErrAnd out (λ x. x ≡ unread.Misfit misfit) → said ≡ Err misfit → Fits out said
unfit (Ok a) misfit said h e = absurd h
unfit (Err x) misfit said h e = rw h e
