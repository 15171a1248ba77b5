-- The bodies of responses: values of JSON whose members are in the order of their names, of a server at a URL.
-- Source: Identity API v3.
use Rattle.std.specs.Prelude.{ℕ, List, [], Option, Some, None, map, codes}
use Rattle.std.specs.Option.{option_map_or}
use Rattle.json.specs.Token.{Token}
use Rattle.json.specs.Tree.{json_tokens}
use Rattle.serde_json.specs.Data.{Data}
use Rattle.serde_json.specs.Written.{compact_text, outline}
use Rattle.ks_machine.specs.declared.body_out.BodyOut.{BodyOut}
use Rattle.ks_machine.specs.declared.body_out.BodyOut.TheVariants as body_out
use Rattle.ks_machine.specs.declared.reply.Reply.{Reply}
use Rattle.ks_machine.specs.declared.reply.Reply.TheVariants as reply
use Rattle.ks_render.specs.Catalog.{service_told}
use Rattle.ks_render.specs.Credentials.{app_cred_made}
use Rattle.ks_render.specs.Errors.{refused_body}
use Rattle.ks_render.specs.Events.{event_value}
use Rattle.ks_render.specs.Grants.{assignment_value}
use Rattle.ks_render.specs.Listings.{inference_body, keys_body, links_then_rows, many_body, rows_then_links}
use Rattle.ks_render.specs.Named.{titled_value, titles_value}
use Rattle.ks_render.specs.Rows.{one_body, role_value, row_value}
use Rattle.ks_render.specs.Tokens.{token_body}
use Rattle.ks_render.specs.Versions.{version_body, versions_body}

-- what an answer tells that grants a command
abbrev pub granted_body : BodyOut → List ℕ → Option Data
granted_body body_out.Nothing url = None
granted_body body_out.Version url = Some (version_body url)
granted_body body_out.Versions url = Some (versions_body url)
granted_body (body_out.Token told) url = Some (token_body told)
granted_body (body_out.One told made) url = Some (one_body url told)
granted_body (body_out.Many kind rows path) url = Some (many_body kind (map (row_value url) rows) url path)
granted_body (body_out.Inference prior implied made) url = Some (inference_body (titled_value implied) prior)
granted_body (body_out.Inferences prior implied) url = Some (inference_body (titles_value implied) prior)
granted_body (body_out.Grants roles path) url = Some (links_then_rows (codes "roles") (map (role_value url) roles) url path)
granted_body (body_out.Assignments grants path) url = Some (links_then_rows (codes "role_assignments") (map assignment_value grants) url path)
granted_body (body_out.Trusts rows path) url = Some (links_then_rows (codes "trusts") (map (row_value url) rows) url path)
granted_body (body_out.TrustRoles roles path) url = Some (links_then_rows (codes "roles") (map (role_value url) roles) url path)
granted_body (body_out.Events events path) url = Some (rows_then_links (codes "events") (map event_value events) url path)
granted_body (body_out.Keys held primary) url = Some (keys_body held primary)
granted_body (body_out.Catalog services path) url = Some (rows_then_links (codes "catalog") (map service_told services) url path)
granted_body (body_out.AppCredMade cred roles secret) url = Some (app_cred_made url cred roles secret)
granted_body (body_out.AppCreds rows path) url = Some (rows_then_links (codes "application_credentials") (map (row_value url) rows) url path)
granted_body (body_out.Secrets rows path) url = Some (rows_then_links (codes "credentials") (map (row_value url) rows) url path)

abbrev pub body_of : Reply → List ℕ → Option Data
body_of (reply.Ok granted) url = granted_body granted url
body_of (reply.Refused why) url = Some (refused_body why)

-- the text of a body, if there is one
abbrev pub text_of : Option Data → List ℕ
text_of body = option_map_or compact_text body []

-- its brackets, names, texts, numbers and words, if there is one
abbrev pub tokens_of : Option Data → List Token
tokens_of body = option_map_or (λ value. json_tokens (outline value)) body []
