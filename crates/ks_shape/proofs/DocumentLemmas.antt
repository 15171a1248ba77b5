-- Reading a document.
use Rattle.std.proofs.Common.{◌≡◌, ℕ, Bool, true, false, List, Some, None, Ok, Err, refl}
use Rattle.std.specs.Prelude.{Option, if◌then◌else◌}
use Rattle.std.specs.Str.{IsUtf8, is_utf8}
use Rattle.std.proofs.lemmas.Str.{IsUtf8-from_is_utf8, is_utf8-from_IsUtf8}
use Rattle.serde_json.specs.Data.{Data}
use Rattle.serde_json.specs.Read.{read}
use Rattle.ks_base.specs.declared.shapes.ShapeFault.TheVariants.{NotJson}
use Rattle.ks_base.specs.Results.{found}
use Rattle.ks_shape.specs.Bodies.{document}

pub document_read : (bytes : List ℕ) (value : Data) → IsUtf8 bytes → read bytes ≡ Some value → found (document bytes) NotJson ≡ Ok value
document_read bytes value utf8 e = rw (is_utf8-from_IsUtf8 bytes utf8, e) refl

no_value : (b : Bool) (o : Option Data) → (b ≡ true → o ≡ None) → found (if b then o else None) NotJson ≡ Err NotJson
no_value true o h = rw (h refl) refl
no_value false o h = refl

pub document_refused : (bytes : List ℕ) → (IsUtf8 bytes → read bytes ≡ None) → found (document bytes) NotJson ≡ Err NotJson
document_refused bytes h = no_value (is_utf8 bytes) (read bytes) (λ e. h (IsUtf8-from_is_utf8 bytes e))
