-- How the answers of the steps make the answer of the whole.
use Rattle.std.proofs.Common.{◌≡◌, ℕ, ◌*◌, ◌<◌, List, [], length, Ok, Err, refl, ap, subst, ◌∙◌}
use Rattle.std.specs.Prelude.{Result}
use Rattle.std.specs.List.{concat}
use Rattle.serde_json.specs.Data.{Data}
use Rattle.ks_base.specs.declared.key.Key.{Key}
use Rattle.ks_base.specs.declared.shapes.ShapeFault.{ShapeFault}
use Rattle.ks_base.specs.declared.shapes.ShapeRefusal.{ShapeRefusal}
use Rattle.ks_base.specs.declared.shapes.ShapeRefusal.TheVariants as refusal
use Rattle.ks_base.specs.Results.{◌>>=◌}
use Rattle.ks_outside.specs.Desks.{DeskState}
use Rattle.ks_machine.specs.Openings.{NamedRule}
use Rattle.ks_policy.specs.declared.fault.PolicyFault.{PolicyFault}
use Rattle.ks_policy.specs.declared.fault.PolicyFault.TheVariants as policy
use Rattle.ks_policy.specs.Openings.{plain}
use Rattle.ks_shape.specs.Bodies.{whole_document}
use Rattle.ks_shape.specs.Readings.{Reads, ReadsBy}
use Rattle.ks_setup.proofs.DrawLemmas.{drew_nothing}
use Rattle.ks_setup.specs.declared.derive.DrawFault.{DrawFault}
use Rattle.ks_setup.specs.declared.derive.DrawFault.TheVariants as draw
use Rattle.ks_setup.specs.declared.keys.RingFault.{RingFault}
use Rattle.ks_setup.specs.declared.keys.RingFault.TheVariants as keys
use Rattle.ks_setup.specs.declared.opening.Checked.{Checked}
use Rattle.ks_setup.specs.declared.opening.OpeningFault.{OpeningFault}
use Rattle.ks_setup.specs.declared.opening.OpeningFault.TheVariants.{Shape, Policy, BadKey, Random, Memory}
use Rattle.ks_written.specs.declared.written.Written.{Written}
use Rattle.ks_setup.specs.Forms.{Form, IsFormOf, ReadsForm, ReadsWhole}
use Rattle.ks_setup.specs.Openings.{AnswersFolder, AnswersOpening, LoadsPolicy, Opens, passwords}
use Rattle.ks_setup.specs.Steps.{Checks, DrawsSalts, ReadsRing, of_draw, of_keys, of_policy, of_shape, opened_with}
use Rattle.ks_written.specs.Written.{document_of, file_of, folder_wanted, is_folder, written_in}

-- the form of a file

pub text_refused : (e : ShapeRefusal) (text : List ℕ) → ReadsBy {X = Data} (λ x. x) (Err e) (document_of text) → ReadsWhole text (Err e)
unfolding file_of
text_refused (refusal.Shape fault) text h = ap (λ r. r >>= (λ value. written_in (whole_document value))) h
text_refused refusal.Memory text h = tt

pub form_of_file : (text : List ℕ) (file : Data) (r : Result Written ShapeFault) → document_of text ≡ Ok file → written_in (whole_document file) ≡ r → file_of text ≡ r
unfolding file_of
form_of_file text file r is h = ap (λ d. d >>= (λ value. written_in (whole_document value))) is ∙ h

pub form_refused : (e : ShapeRefusal) (text : List ℕ) (file : Data) → document_of text ≡ Ok file → Reads (Err e) (written_in (whole_document file))
    → ReadsWhole text (Err e)
form_refused (refusal.Shape fault) text file is h = form_of_file text file (Err fault) is h
form_refused refusal.Memory text file is h = tt

pub unformed : (e : ShapeRefusal) (text : List ℕ) → ReadsWhole text (Err e) → ReadsForm text (Err (of_shape e))
unformed (refusal.Shape fault) text h = h
unformed refusal.Memory text h = tt

folder_by : (text : List ℕ) (r : Result Written ShapeFault) → file_of text ≡ r → folder_wanted text ≡ r >>= (λ written. Ok (is_folder written.keys))
unfolding folder_wanted
folder_by text r is = ap (λ form. form >>= (λ written. Ok (is_folder written.keys))) is

pub folder_known : (text : List ℕ) (form : Form) → IsFormOf text form → folder_wanted text ≡ Ok (is_folder form.written.keys)
folder_known text form are = folder_by text (Ok form.written) are.0

pub folder_unknown : (e : OpeningFault) (text : List ℕ) → ReadsForm text (Err e) → AnswersFolder text (Err e)
folder_unknown (Shape fault) text h = folder_by text (Err fault) h
folder_unknown (Policy fault) text h = h
folder_unknown (BadKey path) text h = h
folder_unknown Random text h = h
folder_unknown Memory text h = tt

-- the policy and the keys

pub policy_refused : (e : PolicyFault) (text : List ℕ) (written : Written) (held : List (ℕ × Key)) → file_of text ≡ Ok written → LoadsPolicy text (Err e)
    → Checks text held (Err (of_policy e))
policy_refused policy.NotObject text written held form loads = ((written, form), loads)
policy_refused (policy.NotText name) text written held form loads = ((written, form), loads)
policy_refused (policy.Cycle name) text written held form loads = ((written, form), loads)
policy_refused policy.TooMany text written held form loads = ((written, form), loads)
policy_refused policy.Memory text written held form loads = tt

pub ring_refused : (e : RingFault) (text : List ℕ) (written : Written) (rules : List NamedRule) (held : List (ℕ × Key)) → file_of text ≡ Ok written
    → LoadsPolicy text (Ok rules) → ReadsRing written.keys held (Err e) → Checks text held (Err (of_keys e))
ring_refused (keys.BadKey path) text written rules held form loads bad = (((written, form), (rules, loads)), (written, form, bad))
ring_refused keys.Memory text written rules held form loads bad = tt

-- the opening

-- what is refused before any password is derived leaves the desk
pub unchecked_answers : {Link : Type 0} (e : OpeningFault) (text : List ℕ) (held : List (ℕ × Key)) (desk : DeskState Link)
    → Checks text held (Err e) → AnswersOpening text held desk desk (Err e)
unchecked_answers (Shape fault) text held desk h = (h, refl)
unchecked_answers (Policy policy.NotObject) text held desk h = (h.0, h.1, refl)
unchecked_answers (Policy (policy.NotText name)) text held desk h = (h.0, h.1, refl)
unchecked_answers (Policy (policy.Cycle name)) text held desk h = (h.0, h.1, refl)
unchecked_answers (Policy policy.TooMany) text held desk h = (h.0, h.1, refl)
unchecked_answers (Policy policy.Memory) text held desk h = absurd h
unchecked_answers (BadKey path) text held desk h = (h.0, h.1, refl)
unchecked_answers Random text held desk h = absurd h
unchecked_answers Memory text held desk h = ([], drew_nothing desk)

-- and what is refused for want of salts leaves it without them
pub no_salts_answers : {Link : Type 0} (e : DrawFault) (checked : Checked) (count : ℕ) (text : List ℕ) (held : List (ℕ × Key)) (old new : DeskState Link)
    → Checks text held (Ok checked) → count ≡ passwords checked.written.users → DrawsSalts count old new (Err e)
    → AnswersOpening text held old new (Err (of_draw e))
no_salts_answers draw.Random checked count text held old new file is h =
    let short = subst (λ n. (given : ℕ) × (given < n) × (length h.0 ≡ 16 * given)) is h.1 in (
      ((checked.written, file.0), (checked.rules, file.1)),
      (h.0, (checked.written, file.0, (checked.ring, file.2), short), h.2, h.3),
    )
no_salts_answers draw.Memory checked count text held old new file is h = h

-- a checked file opens with as many salts as it has plain passwords
pub opens_with : (checked : Checked) (text : List ℕ) (held : List (ℕ × Key)) (salts : List (List ℕ)) → Checks text held (Ok checked)
    → length (concat salts) ≡ 16 * passwords checked.written.users → Opens text held (concat salts) (plain (opened_with checked salts))
opens_with checked text held salts file whole = record {
  written = checked.written;
  form = file.0;
  policy = file.1;
  ring = file.2;
  draws = whole;
  users = refl;
  settings = refl;
  domains = refl;
  projects = refl;
  groups = refl;
  members = refl;
  roles = refl;
  implications = refl;
  regions = refl;
  services = refl;
  endpoints = refl;
  assignments = refl;
}
