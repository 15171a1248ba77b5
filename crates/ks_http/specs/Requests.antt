-- The requests at the front of a stream of bytes.
-- Source: RFC 9112, 9.3.
use Rattle.std.specs.Prelude.{◌≡◌, ◌<◌, ◌+◌, ℕ, false, List, [], ◌∷◌}
use Rattle.ks_base.specs.declared.limits.TheConstants.{CONNECTION_REQUESTS}
use Rattle.ks_http.specs.declared.request.Request.{Request}
use Rattle.ks_http.specs.Next.{IsFirst}

-- | behind `count` others come these requests, none of which ends the connection, and then `rest`
abbrev pub AreFirst : ℕ → List ℕ → List Request → List ℕ → Type 0
AreFirst count bytes [] rest = bytes ≡ rest
AreFirst count bytes (request ∷ requests) rest =
    (behind : List ℕ) × IsFirst bytes request behind × (request.close ≡ false) × (count + 1 < CONNECTION_REQUESTS)
    × AreFirst (count + 1) behind requests rest

-- | these requests come first, and then `rest`
abbrev pub AreFollowed : List ℕ → List Request → List ℕ → Type 0
AreFollowed bytes [] rest = bytes ≡ rest
AreFollowed bytes (request ∷ requests) rest = (behind : List ℕ) × IsFirst bytes request behind × AreFollowed behind requests rest
