-- The lines of a head are never refused, and a head ends with a line feed.
use Rattle.std.proofs.Common.{◌≡◌, ℕ, zero, suc, ◌+◌, ◌-◌, ◌<◌, ◌≤◌, ◌==◌, Bool, true, false, List, [], ◌∷◌, ◌++◌, length, Some, refl, sym, ap, ◌∙◌, arith, append_assoc, nat_lt}
use Rattle.std.specs.Prelude.{All, fold, slice_index}
use Rattle.std.specs.List.{flat_map, list_all, position, position_or_len}
use Rattle.std.specs.Str.{is_utf8}
use Rattle.std.proofs.lemmas.Str.{is_utf8-from_IsUtf8}
use Rattle.std.proofs.lemmas.Bool.Decides.{nat_tests}
use Rattle.std.proofs.lemmas.List.{append-nil, take_at, drop_at, get_or_at, get_or_append_left, length-append}
use Rattle.std.proofs.lemmas.List.Elements.{All-weaker, All-append, All-cons, All-head, All-tail}
use Rattle.std.proofs.lemmas.List.Sums.{fold-append, position_or_len_is, list_all-from_AllPass, AllPass-from_list_all}
use Rattle.std.proofs.lemmas.Bool.{and_from}
use Rattle.httparse.specs.Grammar.{is_token_byte, is_token, is_uri_byte, is_value_byte, AllPass, IsToken, LineEnd, crlf, lf, print_end, print_blank, print_version, Field, IsField, print_field, RequestHead, IsRequestHead, print_request}
use Rattle.httparse.proofs.GrammarLemmas.{print_request-append, cons-append}
use Rattle.ks_http.specs.declared.lines.HeadPlace.{HeadPlace}
use Rattle.ks_http.specs.declared.lines.HeadPlace.TheVariants.{Start, Fields, Refused}
use Rattle.ks_http.specs.Lines.{behind_byte, behind_line, behind_first, behind_method, behind_parts, behind_field, behind_one, without_return, cut_at, is_word, is_version, is_known_version, is_name_and_value, is_field_line, reached}
use Rattle.ks_http.proofs.ScanLemmas.{at, behind_other, behind_feed, clear_line}
use Rattle.ks_http.proofs.Cuts.{cut_is}

-- bytes of each class

token_is_uri : (b : ℕ) → is_token_byte b ≡ true → is_uri_byte b ≡ true
unfolding is_token_byte
token_is_uri b token = grind (arith, nat_tests)

uri_is_value : (b : ℕ) → is_uri_byte b ≡ true → is_value_byte b ≡ true
uri_is_value b uri = grind (arith, nat_tests)

value_is_no_feed : (b : ℕ) → is_value_byte b ≡ true → (b == 10) ≡ false
value_is_no_feed b value = grind (arith, nat_tests)

value_is_no_return : (b : ℕ) → is_value_byte b ≡ true → (b == 13) ≡ false
value_is_no_return b value = grind (arith, nat_tests)

uri_is_no_space : (b : ℕ) → is_uri_byte b ≡ true → (b == 32) ≡ false
uri_is_no_space b uri = grind (arith, nat_tests)

token_is_no_colon : (b : ℕ) → is_token_byte b ≡ true → (b == 58) ≡ false
unfolding is_token_byte
token_is_no_colon b token = grind (arith, nat_tests)

tokens_are_uri : (text : List ℕ) → AllPass is_token_byte text → AllPass is_uri_byte text
tokens_are_uri text all = All-weaker (λ b. is_token_byte b ≡ true) (λ b. is_uri_byte b ≡ true) token_is_uri text all

uris_are_values : (text : List ℕ) → AllPass is_uri_byte text → AllPass is_value_byte text
uris_are_values text all = All-weaker (λ b. is_uri_byte b ≡ true) (λ b. is_value_byte b ≡ true) uri_is_value text all

no_feeds : (text : List ℕ) → AllPass is_value_byte text → All (λ b. (b == 10) ≡ false) text
no_feeds text all = All-weaker (λ b. is_value_byte b ≡ true) (λ b. (b == 10) ≡ false) value_is_no_feed text all

values_around : (byte : ℕ) (before behind : List ℕ) → is_value_byte byte ≡ true → AllPass is_value_byte before → AllPass is_value_byte behind
    → AllPass is_value_byte (before ++ byte ∷ behind)
values_around byte before behind value a b =
    let P : ℕ → Type 0 = λ v. is_value_byte v ≡ true in All-append P before (byte ∷ behind) a (All-cons P byte behind value b)

-- lines

ends_other : (text : List ℕ) → All (λ b. (b == 13) ≡ false) text → (slice_index text (length text - 1) == 13) ≡ false
ends_other [] all = refl
ends_other (b ∷ text) all = all (length (b ∷ text) - 1) 0 (omega arith)

pub return_kept : (text : List ℕ) → All (λ b. (b == 13) ≡ false) text → without_return text ≡ text
unfolding without_return
return_kept text all = let e = ends_other text all in rw e refl

return_dropped : (text : List ℕ) → without_return (text ++ 13 ∷ []) ≡ text
unfolding without_return
return_dropped text =
    let n : length (text ++ 13 ∷ []) - 1 ≡ length text = omega (arith, length-append text (13 ∷ [])) in
    rw n (rw (get_or_at text 13 [] 0 (length text) refl) (take_at text (13 ∷ []) (length text) refl))

behind_same : (place : HeadPlace) (line text : List ℕ) → without_return line ≡ without_return text → behind_line place line ≡ behind_line place text
unfolding behind_line
behind_same Start line text e = rw e refl
behind_same (Fields count) line text e = rw e refl
behind_same (Refused cause) line text e = refl

whole_line : (place : HeadPlace) (text : List ℕ) (end : LineEnd) → AllPass is_value_byte text
    → fold behind_byte (at place []) (text ++ print_end end) ≡ at (behind_line place text) []
whole_line place text lf all =
    fold-append behind_byte (at place []) text (10 ∷ [])
    ∙ (ap (λ r. behind_byte r 10) (clear_line place [] text (no_feeds text all)) ∙ behind_feed place text)
whole_line place text crlf all =
    let kept = return_kept text (All-weaker (λ b. is_value_byte b ≡ true) (λ b. (b == 13) ≡ false) value_is_no_return text all) in
    fold-append behind_byte (at place []) text (13 ∷ 10 ∷ [])
    ∙ (ap (λ r. behind_byte (behind_byte r 13) 10) (clear_line place [] text (no_feeds text all))
    ∙ (ap (λ r. behind_byte r 10) (behind_other place text 13 refl)
    ∙ (behind_feed place (text ++ 13 ∷ [])
    ∙ ap (λ p. at p []) (behind_same place (text ++ 13 ∷ []) text (return_dropped text ∙ sym kept)))))

empty_line : (end : LineEnd) → fold behind_byte (at Start []) (print_end end) ≡ at Start []
unfolding behind_byte behind_line behind_first behind_one without_return
empty_line lf = refl
empty_line crlf = refl

empty_lines : (ends : List LineEnd) → fold behind_byte (at Start []) (print_blank ends) ≡ at Start []
empty_lines [] = refl
empty_lines (end ∷ ends) =
    fold-append behind_byte (at Start []) (print_end end) (print_blank ends)
    ∙ (ap (λ r. fold behind_byte r (print_blank ends)) (empty_line end) ∙ empty_lines ends)

-- cuts

some_at : (p : ℕ → Bool) (xs : List ℕ) (k : ℕ) → position_or_len p xs ≡ k → k < length xs → position p xs ≡ Some k
some_at p xs k e lt = let t : nat_lt k (length xs) ≡ true = grind (arith, nat_tests) in rw (e, t) refl

cut_first : (byte : ℕ) (before behind : List ℕ) → (byte == byte) ≡ true → All (λ b. (b == byte) ≡ false) before
    → cut_at byte (before ++ byte ∷ behind) ≡ Some (before, behind)
cut_first byte before behind same clear =
    let longer : length (before ++ byte ∷ behind) ≡ length before + suc (length behind) = length-append before (byte ∷ behind) in
    let first : position_or_len (λ b. b == byte) (before ++ byte ∷ behind) ≡ length before =
    position_or_len_is (λ b. b == byte) (before ++ byte ∷ behind) (length before) 0 (omega arith)
    (λ k lt. rw (get_or_append_left before (byte ∷ behind) 0 k lt) (clear k 0 lt))
    (λ inside. rw (get_or_at before byte behind 0 (length before) refl) same) in
    cut_is byte (before ++ byte ∷ behind) before (byte ∷ behind) behind (length before)
    (some_at (λ b. b == byte) (before ++ byte ∷ behind) (length before) first (omega arith))
    (sym (take_at before (byte ∷ behind) (length before) refl)) (sym (drop_at before (byte ∷ behind) (length before) refl)) refl

-- the first line

word : (text : List ℕ) → 0 < length text → AllPass is_uri_byte text → is_word text ≡ true
unfolding is_word
word [] some all = absurd (omega arith)
word (b ∷ text) some all = list_all-from_AllPass is_uri_byte (b ∷ text) all

token : (text : List ℕ) → IsToken text → is_token text ≡ true
token text is = let t : nat_lt 0 (length text) ≡ true = let some = is.0 in grind (arith, nat_tests) in
    and_from (nat_lt 0 (length text)) (list_all is_token_byte text) t (list_all-from_AllPass is_token_byte text is.1)

version : (minor : ℕ) → minor ≤ 1 → is_version (print_version minor) ≡ true
unfolding is_version
version zero le = refl
version (suc zero) le = refl
version (suc (suc n)) le = absurd (omega arith)

known : (minor : ℕ) → minor ≤ 1 → is_known_version (print_version minor) ≡ true
unfolding is_known_version
known zero le = refl
known (suc zero) le = refl
known (suc (suc n)) le = absurd (omega arith)

version_values : (minor : ℕ) → minor ≤ 1 → list_all is_value_byte (print_version minor) ≡ true
version_values zero le = refl
version_values (suc zero) le = refl
version_values (suc (suc n)) le = absurd (omega arith)

behind_them : (method target version : List ℕ) → is_word method ≡ true → is_word target ≡ true → is_version version ≡ true → is_known_version version ≡ true
    → is_token method ≡ true → is_utf8 target ≡ true → behind_parts method target version ≡ Fields 0
unfolding behind_parts
behind_them method target version a b c d e f = rw (a, b, c, d, e, f) refl

abbrev first_text : List ℕ → List ℕ → List ℕ → List ℕ
first_text method target version = method ++ 32 ∷ (target ++ 32 ∷ version)

values_of_first : (head : RequestHead) → IsRequestHead head → AllPass is_value_byte (first_text head.method head.target (print_version head.minor))
values_of_first head is =
    values_around 32 head.method (head.target ++ 32 ∷ print_version head.minor) refl
    (uris_are_values head.method (tokens_are_uri head.method is.method.1))
    (values_around 32 head.target (print_version head.minor) refl (uris_are_values head.target is.target.1)
    (AllPass-from_list_all is_value_byte (print_version head.minor) (version_values head.minor is.minor)))

first_place : (head : RequestHead) → IsRequestHead head → behind_line Start (first_text head.method head.target (print_version head.minor)) ≡ Fields 0
unfolding behind_line behind_first behind_method
first_place head is =
    let text = first_text head.method head.target (print_version head.minor) in
    let kept : without_return (first_text head.method head.target (print_version head.minor)) ≡ first_text head.method head.target (print_version head.minor) =
    return_kept text (All-weaker (λ b. is_value_byte b ≡ true) (λ b. (b == 13) ≡ false) value_is_no_return text (values_of_first head is)) in
    let method_ends = cut_first 32 head.method (head.target ++ 32 ∷ print_version head.minor) refl
    (All-weaker (λ b. is_token_byte b ≡ true) (λ b. (b == 32) ≡ false) (λ b t. uri_is_no_space b (token_is_uri b t)) head.method is.method.1) in
    let target_ends = cut_first 32 head.target (print_version head.minor) refl
    (All-weaker (λ b. is_uri_byte b ≡ true) (λ b. (b == 32) ≡ false) uri_is_no_space head.target is.target.1) in
    rw (kept, method_ends, target_ends)
    (behind_them head.method head.target (print_version head.minor)
    (word head.method is.method.0 (tokens_are_uri head.method is.method.1)) (word head.target is.target.0 is.target.1)
    (version head.minor is.minor) (known head.minor is.minor) (token head.method is.method) (is_utf8-from_IsUtf8 head.target is.target_text))

first_line : (head : RequestHead) → IsRequestHead head
    → fold behind_byte (at Start []) (first_text head.method head.target (print_version head.minor) ++ print_end head.line_end) ≡ at (Fields 0) []
first_line head is = whole_line Start (first_text head.method head.target (print_version head.minor)) head.line_end (values_of_first head is)
    ∙ ap (λ p. at p []) (first_place head is)

-- the field lines

field_place : (count : ℕ) (field : Field) → IsField field → count < 64 → behind_line (Fields count) (field.name ++ 58 ∷ field.raw) ≡ Fields (count + 1)
unfolding behind_line behind_field is_field_line is_name_and_value
field_place count field is few =
    let text = field.name ++ 58 ∷ field.raw in
    let values = values_of_field field is in
    let kept : without_return (field.name ++ 58 ∷ field.raw) ≡ field.name ++ 58 ∷ field.raw =
    return_kept text (All-weaker (λ b. is_value_byte b ≡ true) (λ b. (b == 13) ≡ false) value_is_no_return text values) in
    let name_ends = cut_first 58 field.name field.raw refl
    (All-weaker (λ b. is_token_byte b ≡ true) (λ b. (b == 58) ≡ false) token_is_no_colon field.name is.name.1) in
    let named = token field.name is.name in
    let valued = list_all-from_AllPass is_value_byte field.raw is.raw in
    let more : nat_lt count 64 ≡ true = grind (arith, nat_tests) in
    rw (kept, name_ends, named, valued, more) refl
  where
    values_of_field : (field : Field) → IsField field → AllPass is_value_byte (field.name ++ 58 ∷ field.raw)
    values_of_field field is = values_around 58 field.name field.raw refl (uris_are_values field.name (tokens_are_uri field.name is.name.1)) is.raw

field_line : (count : ℕ) (field : Field) → IsField field → count < 64 → fold behind_byte (at (Fields count) []) (print_field field) ≡ at (Fields (count + 1)) []
field_line count field is few =
    whole_line (Fields count) (field.name ++ 58 ∷ field.raw) field.end
    (values_around 58 field.name field.raw refl (uris_are_values field.name (tokens_are_uri field.name is.name.1)) is.raw)
    ∙ ap (λ p. at p []) (field_place count field is few)

field_lines : (count : ℕ) (fields : List Field) → All IsField fields → count + length fields ≤ 64
    → fold behind_byte (at (Fields count) []) (flat_map print_field fields) ≡ at (Fields (count + length fields)) []
field_lines count [] all few = let e : count ≡ count + 0 = omega arith in ap (λ n. at (Fields n) []) e
field_lines count (field ∷ fields) all few =
    let e : count + 1 + length fields ≡ count + suc (length fields) = omega arith in
    fold-append behind_byte (at (Fields count) []) (print_field field) (flat_map print_field fields)
    ∙ (ap (λ r. fold behind_byte r (flat_map print_field fields)) (field_line count field (All-head IsField field fields all) (omega arith))
    ∙ (field_lines (count + 1) fields (All-tail IsField field fields all) (omega arith) ∙ ap (λ n. at (Fields n) []) e))

-- the head without its last byte

last_return : LineEnd → List ℕ
last_return lf = []
last_return crlf = 13 ∷ []

pub but_last : RequestHead → List ℕ
but_last head =
    print_blank head.blank ++ ((first_text head.method head.target (print_version head.minor) ++ print_end head.line_end)
    ++ (flat_map print_field head.fields ++ last_return head.last))

last_feed : (end : LineEnd) → print_end end ≡ last_return end ++ 10 ∷ []
unfolding last_return
last_feed lf = refl
last_feed crlf = refl

pub ends_with_feed : (head : RequestHead) → print_request head ≡ but_last head ++ 10 ∷ []
unfolding but_last
ends_with_feed head =
    sym (append-nil (print_request head)) ∙ (print_request-append head []
    ∙ (ap (λ e. print_blank head.blank ++ (head.method ++ 32 ∷ (head.target ++ 32 ∷ (print_version head.minor ++ (print_end head.line_end
    ++ ((flat_map print_field head.fields ++ e) ++ [])))))) (last_feed head.last)
    ∙ regroup (print_blank head.blank) head.method head.target (print_version head.minor) (print_end head.line_end) (flat_map print_field head.fields) (last_return head.last)))
  where
    regroup : (a b c d e f g : List ℕ) → a ++ (b ++ 32 ∷ (c ++ 32 ∷ (d ++ (e ++ ((f ++ (g ++ 10 ∷ [])) ++ []))))) ≡ (a ++ ((b ++ 32 ∷ (c ++ 32 ∷ d) ++ e) ++ (f ++ g))) ++ 10 ∷ []
    regroup a b c d e f g = simp (append_assoc, cons-append, append-nil)

last_place : (count : ℕ) (end : LineEnd) → (fold behind_byte (at (Fields count) []) (last_return end)).place ≡ Fields count
unfolding last_return behind_byte
last_place count lf = refl
last_place count crlf = refl

pub place_before_last : (head : RequestHead) → IsRequestHead head → length head.fields ≤ 64 → (reached (but_last head)).place ≡ Fields (length head.fields)
unfolding but_last
place_before_last head is few =
    let blank = print_blank head.blank in
    let first = first_text head.method head.target (print_version head.minor) ++ print_end head.line_end in
    let fields = flat_map print_field head.fields in
    let last = last_return head.last in
    let none : 0 + length head.fields ≡ length head.fields = omega arith in
    ap (λ r. r.place) (fold-append behind_byte (at Start []) blank (first ++ (fields ++ last))
    ∙ (ap (λ r. fold behind_byte r (first ++ (fields ++ last))) (empty_lines head.blank)
    ∙ (fold-append behind_byte (at Start []) first (fields ++ last)
    ∙ (ap (λ r. fold behind_byte r (fields ++ last)) (first_line head is)
    ∙ (fold-append behind_byte (at (Fields 0) []) fields last
    ∙ ap (λ r. fold behind_byte r last) (field_lines 0 head.fields is.fields (omega arith)))))))
    ∙ (last_place (0 + length head.fields) head.last ∙ ap (λ n. Fields n) none)
