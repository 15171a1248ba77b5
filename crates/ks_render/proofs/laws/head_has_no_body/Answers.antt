use Rattle.std.proofs.Common.{◌≡◌, ℕ, Bool, true, false, ◌||◌, ◌==◌, if◌then◌else◌, List, [], refl}
use Rattle.ks_http.specs.Responses.{content}
use Rattle.ks_render.specs.Answers.{status_of}
use Rattle.ks_render.specs.Bodies.{body_of, text_of}
use Rattle.ks_render.proofs.laws.head_has_no_body.Goals as goal

silent : (b : Bool) (body : List ℕ) → (if b || true then [] else body) ≡ []
silent true body = refl
silent false body = refl

pub returns-clause-content : goal.returns-clause-content
unfolding content
returns-clause-content c = λ reply url close. silent (status_of reply == 204) (text_of (body_of reply url))
