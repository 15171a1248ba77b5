-- One line for each exit: the members before it were read, and it stops the file at its fault.
use Rattle.std.proofs.Common.{◌≡◌, ℕ, List, Some, refl, sym, ap, ◌∙◌}
use Rattle.serde_json.specs.Data.{Data}
use Rattle.ks_json.specs.View.{view}
use Rattle.ks_shape.specs.Bodies.{whole_document}
use Rattle.ks_shape.specs.Places.{Place, place_of}
use Rattle.ks_shape.proofs.RefusalLemmas.{stops}
use Rattle.ks_written.specs.Written.{written_in}
use Rattle.ks_written.proofs.file.read_written.Goals as goal

abbrev known_as : List ℕ → Data → Place
known_as path value = record { path = path; value = Some value }

pub returns-in_err-implications : goal.returns-in_err-implications
unfolding written_in
returns-in_err-implications c =
    let here : place_of c.known_as-file.result ≡ whole_document (view c.args.file.now) =
    c.known_as-file.ensures ∙ ap (λ path. known_as path (view c.args.file.now)) c.in_ok-path.ensures in
    let whole : written_in (place_of c.known_as-file.result) ≡ written_in (whole_document (view c.args.file.now)) = ap (λ place. written_in place) here in
    stops c.from_residual-in_err-implications.result c.in_err-implications.field-0.0 _ (written_in (whole_document (view c.args.file.now)))
    c.from_residual-in_err-implications.ensures.1 c.in_err-implications.ensures
    (λ fault h. sym whole ∙ rw (c.in_ok-settings.ensures, c.in_ok-keys.ensures, c.in_ok-domains.ensures, c.in_ok-projects.ensures, c.in_ok-users.ensures, c.in_ok-groups.ensures, c.in_ok-members.ensures, c.in_ok-roles.ensures, h) refl)

pub returns-in_err-regions : goal.returns-in_err-regions
unfolding written_in
returns-in_err-regions c =
    let here : place_of c.known_as-file.result ≡ whole_document (view c.args.file.now) =
    c.known_as-file.ensures ∙ ap (λ path. known_as path (view c.args.file.now)) c.in_ok-path.ensures in
    let whole : written_in (place_of c.known_as-file.result) ≡ written_in (whole_document (view c.args.file.now)) = ap (λ place. written_in place) here in
    stops c.from_residual-in_err-regions.result c.in_err-regions.field-0.0 _ (written_in (whole_document (view c.args.file.now)))
    c.from_residual-in_err-regions.ensures.1 c.in_err-regions.ensures
    (λ fault h. sym whole ∙ rw (c.in_ok-settings.ensures, c.in_ok-keys.ensures, c.in_ok-domains.ensures, c.in_ok-projects.ensures, c.in_ok-users.ensures, c.in_ok-groups.ensures, c.in_ok-members.ensures, c.in_ok-roles.ensures, c.in_ok-implications.ensures, h) refl)

pub returns-in_err-services : goal.returns-in_err-services
unfolding written_in
returns-in_err-services c =
    let here : place_of c.known_as-file.result ≡ whole_document (view c.args.file.now) =
    c.known_as-file.ensures ∙ ap (λ path. known_as path (view c.args.file.now)) c.in_ok-path.ensures in
    let whole : written_in (place_of c.known_as-file.result) ≡ written_in (whole_document (view c.args.file.now)) = ap (λ place. written_in place) here in
    stops c.from_residual-in_err-services.result c.in_err-services.field-0.0 _ (written_in (whole_document (view c.args.file.now)))
    c.from_residual-in_err-services.ensures.1 c.in_err-services.ensures
    (λ fault h. sym whole ∙ rw (c.in_ok-settings.ensures, c.in_ok-keys.ensures, c.in_ok-domains.ensures, c.in_ok-projects.ensures, c.in_ok-users.ensures, c.in_ok-groups.ensures, c.in_ok-members.ensures, c.in_ok-roles.ensures, c.in_ok-implications.ensures, c.in_ok-regions.ensures, h) refl)

pub returns-in_err-endpoints : goal.returns-in_err-endpoints
unfolding written_in
returns-in_err-endpoints c =
    let here : place_of c.known_as-file.result ≡ whole_document (view c.args.file.now) =
    c.known_as-file.ensures ∙ ap (λ path. known_as path (view c.args.file.now)) c.in_ok-path.ensures in
    let whole : written_in (place_of c.known_as-file.result) ≡ written_in (whole_document (view c.args.file.now)) = ap (λ place. written_in place) here in
    stops c.from_residual-in_err-endpoints.result c.in_err-endpoints.field-0.0 _ (written_in (whole_document (view c.args.file.now)))
    c.from_residual-in_err-endpoints.ensures.1 c.in_err-endpoints.ensures
    (λ fault h. sym whole ∙ rw (c.in_ok-settings.ensures, c.in_ok-keys.ensures, c.in_ok-domains.ensures, c.in_ok-projects.ensures, c.in_ok-users.ensures, c.in_ok-groups.ensures, c.in_ok-members.ensures, c.in_ok-roles.ensures, c.in_ok-implications.ensures, c.in_ok-regions.ensures, c.in_ok-services.ensures, h) refl)

pub returns-in_err-assignments : goal.returns-in_err-assignments
unfolding written_in
returns-in_err-assignments c =
    let here : place_of c.known_as-file.result ≡ whole_document (view c.args.file.now) =
    c.known_as-file.ensures ∙ ap (λ path. known_as path (view c.args.file.now)) c.in_ok-path.ensures in
    let whole : written_in (place_of c.known_as-file.result) ≡ written_in (whole_document (view c.args.file.now)) = ap (λ place. written_in place) here in
    stops c.from_residual-in_err-assignments.result c.in_err-assignments.field-0.0 _ (written_in (whole_document (view c.args.file.now)))
    c.from_residual-in_err-assignments.ensures.1 c.in_err-assignments.ensures
    (λ fault h. sym whole ∙ rw (c.in_ok-settings.ensures, c.in_ok-keys.ensures, c.in_ok-domains.ensures, c.in_ok-projects.ensures, c.in_ok-users.ensures, c.in_ok-groups.ensures, c.in_ok-members.ensures, c.in_ok-roles.ensures, c.in_ok-implications.ensures, c.in_ok-regions.ensures, c.in_ok-services.ensures, c.in_ok-endpoints.ensures, h) refl)

pub returns : goal.returns
unfolding written_in
returns c =
    let here : place_of c.known_as-file.result ≡ whole_document (view c.args.file.now) =
    c.known_as-file.ensures ∙ ap (λ path. known_as path (view c.args.file.now)) c.in_ok-path.ensures in
    let whole : written_in (place_of c.known_as-file.result) ≡ written_in (whole_document (view c.args.file.now)) = ap (λ place. written_in place) here in
    sym whole ∙ rw (c.in_ok-settings.ensures, c.in_ok-keys.ensures, c.in_ok-domains.ensures, c.in_ok-projects.ensures, c.in_ok-users.ensures, c.in_ok-groups.ensures)
    (rw (c.in_ok-members.ensures, c.in_ok-roles.ensures, c.in_ok-implications.ensures, c.in_ok-regions.ensures)
    (rw (c.in_ok-services.ensures, c.in_ok-endpoints.ensures, c.in_ok-assignments.ensures) (rw (c.is_folder.ensures, c.in_ok-domains_or.ensures) refl)))
