-- Stretches of work compose, and a connection moves on by them.
use Rattle.std.proofs.Common.{◌≡◌, ◌⊎◌, inl, inr, ℕ, List, [], ◌∷◌, ◌++◌, refl, sym, ap, subst, ◌∙◌, append_assoc, append-nil}
use Rattle.ks_machine.proofs.FrontLemmas.{reflexive, transitive}
use Rattle.ks_outside.specs.Desks.{DeskState}
use Rattle.ks_outside.specs.Files.{DirState}
use Rattle.ks_server.proofs.OrderLemmas.{alone_both, alone_kept, goes_both, goes_kept, made_both, made_kept, made_none, within_of}
use Rattle.ks_server.proofs.TieLemmas.{tied_both, tied_none}
use Rattle.ks_server.specs.Exchanges.{Exchange, bare, made}
use Rattle.ks_server.specs.Work.{IsReadingAmong, PassMoves, Works}
use Rattle.ks_turn.specs.Passes.{Passed}

-- moves

pub reading_first : (moment : ℕ) (xs ys : List Exchange) → IsReadingAmong moment xs → IsReadingAmong moment (xs ++ ys)
reading_first moment [] ys h = absurd h
reading_first moment (x ∷ xs) ys (inl is) = inl is
reading_first moment (x ∷ xs) ys (inr more) = inr (reading_first moment xs ys more)

pub reading_last : (moment : ℕ) (xs ys : List Exchange) → IsReadingAmong moment ys → IsReadingAmong moment (xs ++ ys)
reading_last moment [] ys h = h
reading_last moment (x ∷ xs) ys h = inr (reading_last moment xs ys h)

top_both : (a b c : ℕ) (xs ys : List Exchange) → (b ≡ a) ⊎ IsReadingAmong b xs → (c ≡ b) ⊎ IsReadingAmong c ys → (c ≡ a) ⊎ IsReadingAmong c (xs ++ ys)
top_both a b c xs ys one (inr among) = inr (reading_last c xs ys among)
top_both a b c xs ys (inl same) (inl kept) = inl (kept ∙ same)
top_both a b c xs ys (inr among) (inl kept) = inr (subst (λ m. IsReadingAmong m (xs ++ ys)) (sym kept) (reading_first b xs ys among))

pub moves_none : (p : Passed) → PassMoves p p []
moves_none p = record {
  turn = refl;
  later = reflexive p.seen;
  in_order = refl;
  own = sym (ap (λ l. p.own ++ l) (made_none p.seen) ∙ append-nil p.own);
  top = inl refl;
  weight = refl;
  alone = λ all. tt;
}

pub moves_both : (p q r : Passed) (xs ys : List Exchange) → PassMoves p q xs → PassMoves q r ys → PassMoves p r (xs ++ ys)
moves_both p q r xs ys one other =
    let within = within_of q.seen (bare p.seen) (bare q.seen) xs one.in_order in
    let in_order = goes_kept q.seen r.seen (bare p.seen) (bare q.seen) xs other.later one.in_order in
    record {
      turn = other.turn ∙ one.turn;
      later = transitive p.seen q.seen r.seen one.later other.later;
      in_order = goes_both r.seen (bare p.seen) (bare q.seen) (bare r.seen) xs ys in_order other.in_order;
      own = other.own
          ∙ ap (λ l. l ++ made r.seen ys) (one.own ∙ ap (λ l. p.own ++ l) (sym (made_kept q.seen r.seen other.later xs within)))
          ∙ append_assoc p.own (made r.seen xs) (made r.seen ys)
          ∙ ap (λ l. p.own ++ l) (sym (made_both r.seen xs ys));
      top = top_both p.top q.top r.top xs ys one.top other.top;
      weight = other.weight ∙ one.weight;
      alone = λ all.
          alone_both r.seen (bare p.seen) (bare q.seen) xs ys in_order
          (alone_kept q.seen r.seen (bare p.seen) xs other.later within (one.alone all))
          (other.alone (one.weight ∙ all));
    }

-- works

pub works_none : {Link : Type 0} (p : Passed) (desk : DeskState Link) (dir : DirState) → Works p p desk desk dir dir []
works_none p desk dir = record { moves = moves_none p; tied = tied_none desk dir }

pub works_both : {Link : Type 0} {p q r : Passed} {a b c : DeskState Link} {d e f : DirState} {xs ys : List Exchange} → Works p q a b d e xs → Works q r b c e f ys
    → Works p r a c d f (xs ++ ys)
works_both {Link} {p} {q} {r} {a} {b} {c} {d} {e} {f} {xs} {ys} one other = record {
  moves = moves_both p q r xs ys one.moves other.moves;
  tied = tied_both a b c d e f xs ys one.tied other.tied;
}
