-- What the head of a request says.
-- Source: RFC 9112, 3.2 and 6; own limits.
use Rattle.std.specs.Prelude.{ℕ, ◌==◌, nat_lt, Bool, if◌then◌else◌, List, [], ◌∷◌, length, map, slice_index, Option, Some, None, Result, Ok, Err, codes}
use Rattle.std.specs.Str.{is_utf8, bytes_eq}
use Rattle.httparse.specs.Grammar.{RequestHead}
use Rattle.httparse.specs.Spans.{name_and_value}
use Rattle.ks_base.specs.declared.limits.TheConstants.{BODY_BYTES}
use Rattle.ks_base.specs.declared.method.Method.{Method}
use Rattle.ks_base.specs.declared.method.Method.TheVariants.{Get, Head, Post, Patch, Put, Delete, Other}
use Rattle.ks_http.specs.declared.cause.HttpCause.{HttpCause}
use Rattle.ks_http.specs.declared.cause.HttpCause.TheVariants.{Malformed, Chunked, TooLarge}
use Rattle.ks_http.specs.declared.parts.RequestParts.{RequestParts}
use Rattle.ks_http.specs.Lines.{cut_at}
use Rattle.ks_http.specs.Fields.{Named, values_of, is_number, number_of, is_chunked, closes}

-- P of the value, where there is no refusal
unfoldable pub behind : {A B : Type 0} → (A → Result B HttpCause) → Result A HttpCause → Result B HttpCause
behind f (Ok a) = f a
behind f (Err cause) = Err cause

-- the methods have upper case letters alone
unfoldable pub method_of : List ℕ → Method
method_of text =
    if bytes_eq text (codes "GET") then Get
    else if bytes_eq text (codes "HEAD") then Head
    else if bytes_eq text (codes "POST") then Post
    else if bytes_eq text (codes "PATCH") then Patch
    else if bytes_eq text (codes "PUT") then Put
    else if bytes_eq text (codes "DELETE") then Delete
    else Other

-- the path ends before the first question mark, and the query stands behind it
unfoldable pub path_in : List ℕ → Option (List ℕ × List ℕ) → List ℕ
path_in target None = target
path_in target (Some cut) = cut.0

unfoldable pub query_in : Option (List ℕ × List ℕ) → List ℕ
query_in None = []
query_in (Some cut) = cut.1

abbrev pub path_of : List ℕ → List ℕ
path_of target = path_in target (cut_at 63 target)

abbrev pub query_of : List ℕ → List ℕ
query_of target = query_in (cut_at 63 target)

-- a text in UTF-8
unfoldable pub text_of : List ℕ → Result (List ℕ) HttpCause
text_of bytes = if is_utf8 bytes then Ok bytes else Err Malformed

-- the target is in origin form, which begins with a slash, and its path is text
unfoldable pub path_text : List ℕ → Result (List ℕ) HttpCause
path_text target = if slice_index target 0 == 47 then text_of (path_of target) else Err Malformed

-- a token comes once at most, and is text
unfoldable pub token_of : List (List ℕ) → Result (Option (List ℕ)) HttpCause
token_of [] = Ok None
token_of (value ∷ []) = behind (λ text. Ok (Some text)) (text_of value)
token_of (value ∷ other ∷ values) = Err Malformed

-- Content-Length comes once at most, and is decimal digits; without it there is no body
unfoldable pub announced : List (List ℕ) → Result ℕ HttpCause
announced [] = Ok 0
announced (value ∷ []) = if is_number value then Ok (number_of value) else Err Malformed
announced (value ∷ other ∷ values) = Err Malformed

-- a body does not come in chunks, and has at most 114,688 bytes
unfoldable pub allowed : Bool → ℕ → Result ℕ HttpCause
allowed chunked length = if chunked then Err Chunked else if nat_lt BODY_BYTES length then Err TooLarge else Ok length

-- how long the fields say that the body is
unfoldable pub body_length : List Named → Result ℕ HttpCause
body_length fields = behind (allowed (is_chunked fields)) (announced (values_of (codes "Content-Length") fields))

-- what the parts of a head say of the request
abbrev pub with_length : List ℕ → List ℕ → ℕ → List Named → List ℕ → Option (List ℕ) → Option (List ℕ) → ℕ → Result RequestParts HttpCause
with_length method target minor fields path auth subject length = Ok (record {
  method = method_of method;
  path = path;
  query = query_of target;
  auth = auth;
  subject = subject;
  length = length;
  close = closes minor fields;
})

abbrev pub with_subject : List ℕ → List ℕ → ℕ → List Named → List ℕ → Option (List ℕ) → Option (List ℕ) → Result RequestParts HttpCause
with_subject method target minor fields path auth subject =
    behind (with_length method target minor fields path auth subject) (body_length fields)

abbrev pub with_auth : List ℕ → List ℕ → ℕ → List Named → List ℕ → Option (List ℕ) → Result RequestParts HttpCause
with_auth method target minor fields path auth =
    behind (with_subject method target minor fields path auth) (token_of (values_of (codes "X-Subject-Token") fields))

abbrev pub with_path : List ℕ → List ℕ → ℕ → List Named → List ℕ → Result RequestParts HttpCause
with_path method target minor fields path =
    behind (with_auth method target minor fields path) (token_of (values_of (codes "X-Auth-Token") fields))

-- what the parts of a head say of its request, or why it is refused: the path, the tokens and the length of the body come in this order
abbrev pub said_of : List ℕ → List ℕ → ℕ → List Named → Result RequestParts HttpCause
said_of method target minor fields = behind (with_path method target minor fields) (path_text target)

abbrev pub parts_of : RequestHead → Result RequestParts HttpCause
parts_of head = said_of head.method head.target head.minor (map name_and_value head.fields)
