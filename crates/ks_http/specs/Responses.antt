-- The responses of HTTP/1.1 (RFC 9112, sections 3 to 6; RFC 9110, section 15).
-- Source: RFC 9112, 3 to 6; RFC 9110, 15.
use Rattle.std.specs.Prelude.{ℕ, ◌==◌, ◌||◌, if◌then◌else◌, false, List, [], ◌∷◌, ◌++◌, length, flat_map, codes, decimal}
use Rattle.ks_http.specs.Fields.{Named}
use Rattle.ks_http.specs.declared.response.Response.{Response}

-- the reason phrase of a status; another status has none
unfoldable pub reason_of : ℕ → List ℕ
reason_of status =
    if status == 200 then codes "OK"
    else if status == 201 then codes "Created"
    else if status == 204 then codes "No Content"
    else if status == 300 then codes "Multiple Choices"
    else if status == 400 then codes "Bad Request"
    else if status == 401 then codes "Unauthorized"
    else if status == 403 then codes "Forbidden"
    else if status == 404 then codes "Not Found"
    else if status == 405 then codes "Method Not Allowed"
    else if status == 409 then codes "Conflict"
    else if status == 411 then codes "Length Required"
    else if status == 413 then codes "Request Entity Too Large"
    else if status == 431 then codes "Request Header Fields Too Large"
    else if status == 503 then codes "Service Unavailable"
    else if status == 505 then codes "HTTP Version Not Supported"
    else []

-- a line ends with a carriage return and a line feed
abbrev pub crlf : List ℕ
crlf = 13 ∷ 10 ∷ []

-- status-line = HTTP-version SP status-code SP [ reason-phrase ]
abbrev pub status_line : ℕ → List ℕ
status_line status = codes "HTTP/1.1 " ++ (decimal status ++ (codes " " ++ (reason_of status ++ crlf)))

-- field-line = field-name ":" OWS field-value OWS
abbrev pub field_line : Named → List ℕ
field_line field = field.0 ++ (codes ": " ++ (field.1 ++ crlf))

abbrev pub field_lines : List Named → List ℕ
field_lines fields = flat_map field_line fields

-- the body's length, which a 204 does not have
unfoldable pub length_line : ℕ → List ℕ → List ℕ
length_line status body = if status == 204 then [] else field_line (codes "Content-Length", decimal (length body))

-- | the body, which neither a 204 nor an answer to HEAD has
unfoldable pub content : Response → List ℕ
content r = if (r.status == 204) || r.without_body then [] else r.body

-- what stands before the body: the status line, the body's length, the fields and an empty line
abbrev pub head_of : Response → List ℕ
head_of r = status_line r.status ++ (length_line r.status r.body ++ (field_lines r.fields ++ crlf))

-- the bytes of a response
abbrev pub message : Response → List ℕ
message r = head_of r ++ content r

-- the response where there is no memory for another, which ends the connection
abbrev pub memory_response : List ℕ
memory_response = message (record {
  status = 503;
  fields = (codes "Content-Type", codes "application/json") ∷ (codes "Vary", codes "X-Auth-Token") ∷ (codes "Connection", codes "close") ∷ [];
  body = codes "{\"error\":{\"code\":503,\"message\":\"Out of memory.\",\"title\":\"Service Unavailable\"}}";
  without_body = false;
})
