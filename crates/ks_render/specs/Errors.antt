-- What is told of refusals.
-- Source: Identity API v3; RFC 9110, section 15; own (messages).
use Rattle.std.specs.Prelude.{ℕ, List, [], ◌∷◌, ◌++◌, codes}
use Rattle.serde_json.specs.Data.{Data, number, unsigned, string}
use Rattle.ks_base.specs.declared.shapes.ShapeFault.{ShapeFault}
use Rattle.ks_base.specs.declared.shapes.ShapeFault.TheVariants as shape
use Rattle.ks_machine.specs.declared.cause.Cause.{Cause}
use Rattle.ks_machine.specs.declared.cause.Cause.TheVariants as cause
use Rattle.ks_machine.specs.Actions.{kind_word}
use Rattle.ks_http.specs.Responses.{reason_of}
use Rattle.ks_http.specs.declared.cause.HttpCause.{HttpCause}
use Rattle.ks_http.specs.declared.cause.HttpCause.TheVariants as bad
use Rattle.ks_render.specs.Values.{object_of}
use Rattle.ks_render.specs.Names.{keys_name, tree_name, trust_name}

-- | {"error": {"code": STATUS, "message": MESSAGE, "title": REASON}}
unfoldable pub error_body : ℕ → List ℕ → Data
error_body status message =
    object_of ((
      codes "error",
      object_of (
          (codes "code", number (unsigned status))
          ∷ (codes "message", string message)
          ∷ (codes "title", string (reason_of status)) ∷ []),
    ) ∷ [])

-- ---- the machine's refusals

-- the status and the message of a refusal
abbrev pub status_of_cause : Cause → ℕ
status_of_cause (cause.Shape fault) = 400
status_of_cause cause.NoToken = 401
status_of_cause (cause.CallerToken why) = 401
status_of_cause cause.Credentials = 401
status_of_cause (cause.ScopeRefused why) = 401
status_of_cause (cause.Rule action) = 403
status_of_cause (cause.Trust fault) = 403
status_of_cause (cause.Tree fault) = 403
status_of_cause cause.Prohibited = 403
status_of_cause (cause.Immutable field) = 403
status_of_cause cause.TrustToken = 403
status_of_cause cause.KeyMode = 403
status_of_cause (cause.Absent kind id) = 404
status_of_cause (cause.SubjectToken why) = 404
status_of_cause cause.NoRoute = 404
status_of_cause (cause.NoMethod methods) = 405
status_of_cause (cause.NameTaken id) = 409
status_of_cause (cause.Keys fault) = 409
status_of_cause (cause.Full kind) = 503
status_of_cause (cause.IdTaken id) = 503
status_of_cause cause.Random = 503
status_of_cause cause.KeyDir = 503
status_of_cause cause.Memory = 503

unfoldable pub message_of_shape : ShapeFault → List ℕ
message_of_shape shape.NotJson = codes "The body is not JSON."
message_of_shape (shape.Missing path) = path ++ codes " is missing."
message_of_shape (shape.Kind path) = path ++ codes " has the wrong type."
message_of_shape (shape.Range path) = path ++ codes " is out of range."

-- nothing tells which part of a login or of a caller's token is wrong
abbrev pub not_authenticated : List ℕ
not_authenticated = codes "The request you have made requires authentication."

-- a refusal that is told by its name
abbrev pub refused : List ℕ → List ℕ
refused name = codes "Refused: " ++ (name ++ codes ".")

unfoldable pub message_of_cause : Cause → List ℕ
message_of_cause (cause.Shape fault) = message_of_shape fault
message_of_cause cause.NoToken = not_authenticated
message_of_cause (cause.CallerToken why) = not_authenticated
message_of_cause cause.Credentials = not_authenticated
message_of_cause (cause.ScopeRefused why) = not_authenticated
message_of_cause (cause.Rule action) = codes "You are not authorized to perform the requested action: " ++ (action ++ codes ".")
message_of_cause (cause.Trust fault) = refused (trust_name fault)
message_of_cause (cause.Tree fault) = refused (tree_name fault)
message_of_cause cause.Prohibited = codes "Refused: Prohibited."
message_of_cause (cause.Immutable field) = field ++ codes " cannot be changed."
message_of_cause cause.TrustToken = codes "Refused: TrustToken."
message_of_cause cause.KeyMode = codes "Refused: KeyMode."
message_of_cause (cause.Absent kind id) = codes "Could not find " ++ (kind_word kind ++ (codes ": " ++ (id ++ codes ".")))
message_of_cause (cause.SubjectToken why) = codes "Could not find token."
message_of_cause cause.NoRoute = codes "The resource could not be found."
message_of_cause (cause.NoMethod methods) = codes "The method is not allowed."
message_of_cause (cause.NameTaken id) = codes "The name is taken by " ++ (id ++ codes ".")
message_of_cause (cause.Keys fault) = codes "The key folder is refused: " ++ (keys_name fault ++ codes ".")
message_of_cause (cause.Full kind) = codes "The " ++ (kind_word kind ++ codes " table is full.")
message_of_cause (cause.IdTaken id) = codes "The drawn id is taken."
message_of_cause cause.Random = codes "No random bytes."
message_of_cause cause.KeyDir = codes "The key folder failed."
message_of_cause cause.Memory = codes "Out of memory."

abbrev pub refused_body : Cause → Data
refused_body why = error_body (status_of_cause why) (message_of_cause why)

-- ---- bytes that are no request

abbrev pub status_of_bad : HttpCause → ℕ
status_of_bad bad.Malformed = 400
status_of_bad bad.Chunked = 411
status_of_bad bad.TooLarge = 413
status_of_bad bad.HeadTooLarge = 431
status_of_bad bad.Version = 505

unfoldable pub message_of_bad : HttpCause → List ℕ
message_of_bad bad.Malformed = codes "The request is malformed."
message_of_bad bad.Chunked = codes "Chunked bodies are not taken."
message_of_bad bad.TooLarge = codes "The body is too large."
message_of_bad bad.HeadTooLarge = codes "The head is too large."
message_of_bad bad.Version = codes "The version is not supported."

abbrev pub bad_body : HttpCause → Data
bad_body why = error_body (status_of_bad why) (message_of_bad why)
