-- The patterns of paths.
-- Source: Identity API v3.
use Rattle.std.specs.Prelude.{ℕ, Bool, true, false, not, ◌&&◌, ◌||◌, ◌==◌, if◌then◌else◌, List, [], ◌∷◌, map}
use Rattle.std.specs.List.{slice_split}
use Rattle.std.specs.Str.{bytes_eq}
use Rattle.ks_base.specs.Ids.{is_id}

-- the segments of a text: what stands between its slashes, before the first and behind the last
abbrev pub segments : List ℕ → List (List ℕ)
segments text = slice_split (λ b. b == 47) text

-- a part of a pattern is a text, or stands for any id
pub data Part : Type 0 where
  literal : List ℕ → Part
  id : Part

-- a segment that begins with a brace stands for an id
abbrev pub part_of : List ℕ → Part
part_of [] = literal []
part_of (b ∷ text) = if b == 123 then id else literal (b ∷ text)

abbrev pub pattern_of : List ℕ → List Part
pattern_of text = map part_of (segments text)

-- the segment is one that the part stands for
abbrev pub takes : Part → List ℕ → Bool
takes (literal text) segment = bytes_eq text segment
takes id segment = is_id segment

-- there is one segment for each part, which takes it
unfoldable pub fits : List Part → List (List ℕ) → Bool
fits [] [] = true
fits [] (segment ∷ segments) = false
fits (part ∷ parts) [] = false
fits (part ∷ parts) (segment ∷ segments) = takes part segment && fits parts segments

-- no segment is one that both parts take
unfoldable pub differ : Part → Part → Bool
differ (literal text) part = not (takes part text)
differ id (literal text) = not (is_id text)
differ id id = false

-- | nothing fits both patterns: one has more parts, or at some place the parts differ
unfoldable pub apart : List Part → List Part → Bool
apart [] [] = false
apart [] (q ∷ qs) = true
apart (p ∷ ps) [] = true
apart (p ∷ ps) (q ∷ qs) = differ p q || apart ps qs
