-- The responses of HTTP that tell the machine's replies, and those to bytes that are no request.
-- Source: Identity API v3; RFC 9110.
use Rattle.std.specs.Prelude.{ℕ, Bool, true, false, if◌then◌else◌, List, [], ◌∷◌, ◌++◌, codes}
use Rattle.std.specs.List.{join_by}
use Rattle.serde_json.specs.Written.{compact_text}
use Rattle.ks_base.specs.declared.method.Method.{Method}
use Rattle.ks_base.specs.declared.method.Method.TheVariants.{Get, Head, Post, Patch, Put, Delete, Other}
use Rattle.ks_machine.specs.declared.body_out.BodyOut.{BodyOut}
use Rattle.ks_machine.specs.declared.body_out.BodyOut.TheVariants as body_out
use Rattle.ks_machine.specs.declared.cause.Cause.{Cause}
use Rattle.ks_machine.specs.declared.cause.Cause.TheVariants as cause
use Rattle.ks_machine.specs.declared.reply.Reply.{Reply}
use Rattle.ks_machine.specs.declared.reply.Reply.TheVariants as reply
use Rattle.ks_http.specs.Fields.{Named}
use Rattle.ks_http.specs.Responses.{message}
use Rattle.ks_http.specs.declared.cause.HttpCause.{HttpCause}
use Rattle.ks_http.specs.declared.response.Response.{Response}
use Rattle.ks_render.specs.Bodies.{body_of, text_of}
use Rattle.ks_render.specs.Errors.{bad_body, status_of_bad, status_of_cause}

-- ---- the status

-- where a command made what is told, the status is 201
abbrev pub status_by : Bool → ℕ
status_by made = if made then 201 else 200

abbrev pub status_of_granted : BodyOut → ℕ
status_of_granted body_out.Nothing = 204
status_of_granted body_out.Version = 200
status_of_granted body_out.Versions = 300
status_of_granted (body_out.Token told) = status_by told.made
status_of_granted (body_out.One told made) = status_by made
status_of_granted (body_out.Many kind rows path) = 200
status_of_granted (body_out.Inference prior implied made) = status_by made
status_of_granted (body_out.Inferences prior implied) = 200
status_of_granted (body_out.Grants roles path) = 200
status_of_granted (body_out.Assignments grants path) = 200
status_of_granted (body_out.Trusts rows path) = 200
status_of_granted (body_out.TrustRoles roles path) = 200
status_of_granted (body_out.Events events path) = 200
status_of_granted (body_out.Keys held primary) = 200
status_of_granted (body_out.Catalog services path) = 200
status_of_granted (body_out.AppCredMade cred roles secret) = 201
status_of_granted (body_out.AppCreds rows path) = 200
status_of_granted (body_out.Secrets rows path) = 200

-- the status of a reply
abbrev pub status_of : Reply → ℕ
status_of (reply.Ok granted) = status_of_granted granted
status_of (reply.Refused why) = status_of_cause why

-- ---- the fields behind the body's length

-- an answer depends on who asks
unfoldable pub vary_fields : List Named
vary_fields = (codes "Vary", codes "X-Auth-Token") ∷ []

-- a body is JSON
unfoldable pub body_fields : List Named
body_fields = (codes "Content-Type", codes "application/json") ∷ (codes "Vary", codes "X-Auth-Token") ∷ []

-- | the first fields, of which the type is that of a body
abbrev pub granted_fields : BodyOut → List Named
granted_fields body_out.Nothing = vary_fields
granted_fields body_out.Version = body_fields
granted_fields body_out.Versions = body_fields
granted_fields (body_out.Token told) = body_fields
granted_fields (body_out.One told made) = body_fields
granted_fields (body_out.Many kind rows path) = body_fields
granted_fields (body_out.Inference prior implied made) = body_fields
granted_fields (body_out.Inferences prior implied) = body_fields
granted_fields (body_out.Grants roles path) = body_fields
granted_fields (body_out.Assignments grants path) = body_fields
granted_fields (body_out.Trusts rows path) = body_fields
granted_fields (body_out.TrustRoles roles path) = body_fields
granted_fields (body_out.Events events path) = body_fields
granted_fields (body_out.Keys held primary) = body_fields
granted_fields (body_out.Catalog services path) = body_fields
granted_fields (body_out.AppCredMade cred roles secret) = body_fields
granted_fields (body_out.AppCreds rows path) = body_fields
granted_fields (body_out.Secrets rows path) = body_fields

abbrev pub first_fields : Reply → List Named
first_fields (reply.Ok granted) = granted_fields granted
first_fields (reply.Refused why) = body_fields

-- the text of a token (Identity API v3)
unfoldable pub token_fields : List ℕ → List Named
token_fields text = (codes "X-Subject-Token", text) ∷ []

-- where a client finds how to authenticate (RFC 9110, section 11.6.1)
unfoldable pub challenge_fields : List ℕ → List Named
challenge_fields url = (codes "WWW-Authenticate", codes "Keystone uri=\"" ++ (url ++ codes "/v3\"")) ∷ []

unfoldable pub name_of : Method → List ℕ
name_of Get = codes "GET"
name_of Head = codes "HEAD"
name_of Post = codes "POST"
name_of Patch = codes "PATCH"
name_of Put = codes "PUT"
name_of Delete = codes "DELETE"
name_of Other = []

-- Allow = #method (RFC 9110, section 10.2.1)
abbrev pub method_list : List Method → List ℕ
method_list methods = join_by name_of (codes ", ") methods

unfoldable pub allow_fields : List Method → List Named
allow_fields methods = (codes "Allow", method_list methods) ∷ []

-- the fields that a refusal has of its own
abbrev pub cause_fields : Cause → List ℕ → List Named
cause_fields (cause.Shape fault) url = []
cause_fields cause.NoToken url = challenge_fields url
cause_fields (cause.CallerToken why) url = challenge_fields url
cause_fields cause.Credentials url = challenge_fields url
cause_fields (cause.ScopeRefused why) url = challenge_fields url
cause_fields (cause.Rule action) url = []
cause_fields (cause.Trust fault) url = []
cause_fields (cause.Tree fault) url = []
cause_fields cause.Prohibited url = []
cause_fields (cause.Immutable field) url = []
cause_fields cause.TrustToken url = []
cause_fields cause.KeyMode url = []
cause_fields (cause.Absent kind id) url = []
cause_fields (cause.SubjectToken why) url = []
cause_fields cause.NoRoute url = []
cause_fields (cause.NoMethod methods) url = allow_fields methods
cause_fields (cause.NameTaken id) url = []
cause_fields (cause.Keys fault) url = []
cause_fields (cause.Full kind) url = []
cause_fields (cause.IdTaken id) url = []
cause_fields cause.Random url = []
cause_fields cause.KeyDir url = []
cause_fields cause.Memory url = []

abbrev pub told_fields : BodyOut → List Named
told_fields body_out.Nothing = []
told_fields body_out.Version = []
told_fields body_out.Versions = []
told_fields (body_out.Token told) = token_fields told.text
told_fields (body_out.One told made) = []
told_fields (body_out.Many kind rows path) = []
told_fields (body_out.Inference prior implied made) = []
told_fields (body_out.Inferences prior implied) = []
told_fields (body_out.Grants roles path) = []
told_fields (body_out.Assignments grants path) = []
told_fields (body_out.Trusts rows path) = []
told_fields (body_out.TrustRoles roles path) = []
told_fields (body_out.Events events path) = []
told_fields (body_out.Keys held primary) = []
told_fields (body_out.Catalog services path) = []
told_fields (body_out.AppCredMade cred roles secret) = []
told_fields (body_out.AppCreds rows path) = []
told_fields (body_out.Secrets rows path) = []

-- | the fields that a reply has of its own
abbrev pub own_fields : Reply → List ℕ → List Named
own_fields (reply.Ok granted) url = told_fields granted
own_fields (reply.Refused why) url = cause_fields why url

-- the connection ends with the response
unfoldable pub close_fields : Bool → List Named
close_fields close = if close then (codes "Connection", codes "close") ∷ [] else []

-- ---- the response

-- the fields of a response
abbrev pub fields_of : Reply → List ℕ → Bool → List Named
fields_of reply url close = first_fields reply ++ (own_fields reply url ++ close_fields close)

-- the response that tells the reply of a server at the URL; one to HEAD has no body
abbrev pub response_of : Reply → List ℕ → Bool → Bool → Response
response_of reply url head close = record {
  status = status_of reply;
  fields = fields_of reply url close;
  body = text_of (body_of reply url);
  without_body = head;
}

-- the response to bytes that are no request, which ends the connection
abbrev pub bad_response_of : HttpCause → Response
bad_response_of why = record {
  status = status_of_bad why;
  fields = body_fields ++ close_fields true;
  body = compact_text (bad_body why);
  without_body = false;
}

-- the bytes on the wire
abbrev pub wire : Reply → List ℕ → Bool → Bool → List ℕ
wire reply url head close = message (response_of reply url head close)

abbrev pub wire_bad : HttpCause → List ℕ
wire_bad why = message (bad_response_of why)
