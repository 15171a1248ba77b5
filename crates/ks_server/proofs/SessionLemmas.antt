-- Sessions: what was told, written and left out reads the same off each later journal.
use Rattle.std.proofs.Common.{◌≡◌, ℕ, ◌+◌, ◌≤◌, List, [], ◌∷◌, ◌++◌, length, Option, Some, refl, sym, ap, subst, ◌∙◌, arith}
use Rattle.ks_http.specs.Next.{Close, asked, last, ended, bad}
use Rattle.ks_http.specs.Responses.{memory_response}
use Rattle.ks_machine.specs.Fronts.{Front, ◌⊑◌}
use Rattle.ks_render.specs.Answers.{wire}
use Rattle.ks_server.proofs.OrderLemmas.{AreWithin, after_kept, cut_kept}
use Rattle.ks_server.specs.declared.closed.Closed.{Closed}
use Rattle.ks_server.specs.declared.closed.Closed.TheVariants as closed
use Rattle.ks_server.specs.Exchanges.{Asked, calls, refused, Exchange, cut_at, front_after, replied}
use Rattle.ks_server.specs.Sessions.{AreKept, AreTold, EndsSession, IsNextWord, IsTold, WroteAll, answered, cut, ends_with, is_head, last_word, memory, refusal, response, responses}

-- at later journals

pub response_kept : (f g : Front) → f ⊑ g → (count : ℕ) (x : Exchange) → x.receipt.changes ≤ length f.changes → response g count x ≡ response f count x
response_kept f g on count x within =
    ap (λ front. wire (replied front x.asked) g.opening.settings.url (is_head x.request.method) (ends_with count x.request)) (cut_kept f g on x.receipt within)
    ∙ ap (λ opening. wire (replied (cut_at f x.receipt) x.asked) opening.settings.url (is_head x.request.method) (ends_with count x.request)) (sym on.opening)

pub responses_kept : (f g : Front) → f ⊑ g → (count : ℕ) (xs : List Exchange) → AreWithin f xs → responses g count xs ≡ responses f count xs
unfolding responses
responses_kept f g on count [] within = refl
responses_kept f g on count (x ∷ xs) within =
    ap (λ l. l ++ responses g (count + 1) xs) (response_kept f g on count x within.0)
    ∙ ap (λ l. response f count x ++ l) (responses_kept f g on (count + 1) xs within.1)

saved : (asked : Asked) (front : Front) (kept more : ℕ) → kept ≤ more → AreKept kept asked front → AreKept more asked front
saved (calls call) front kept more le h = omega (arith, le, h)
saved (refused why) front kept more le h = tt

pub told_one : (f g : Front) → f ⊑ g → (x : Exchange) → x.receipt.changes ≤ length f.changes → IsTold f x → IsTold g x
told_one f g on x within told = record {
  decided = told.decided;
  kept = saved x.asked (front_after g x) f.kept g.kept on.kept (subst (λ front. AreKept f.kept x.asked front) (sym (after_kept f g on x within)) told.kept);
}

pub told_kept : (f g : Front) → f ⊑ g → (xs : List Exchange) → AreWithin f xs → AreTold f xs → AreTold g xs
told_kept f g on [] within told = tt
told_kept f g on (x ∷ xs) within told = (told_one f g on x within.0 told.0, told_kept f g on xs within.1 told.1)

word_kept : (f g : Front) → f ⊑ g → (count : ℕ) (bytes : List ℕ) (over : List Exchange) (word : List ℕ) → AreWithin f over →
    IsNextWord f count bytes over word → IsNextWord g count bytes over word
word_kept f g on count bytes over word within (answered x rest is told) =
    subst (λ l. IsNextWord g count bytes (x ∷ []) l) (response_kept f g on count x within.0) (answered x rest is (told_one f g on x within.0 told))
word_kept f g on count bytes over word within (refusal why is) = refusal why is
word_kept f g on count bytes over word within (cut is) = cut is
word_kept f g on count bytes over word within (memory over' is) = memory over' is

pub within_first : (journal : Front) (xs ys : List Exchange) → AreWithin journal (xs ++ ys) → AreWithin journal xs
within_first journal [] ys h = tt
within_first journal (x ∷ xs) ys h = (h.0, within_first journal xs ys h.1)

pub within_last : (journal : Front) (xs ys : List Exchange) → AreWithin journal (xs ++ ys) → AreWithin journal ys
within_last journal [] ys h = h
within_last journal (x ∷ xs) ys h = within_last journal xs ys h.1

within_both : (journal : Front) (xs first over : List Exchange) → xs ≡ first ++ over → AreWithin journal xs → AreWithin journal first × AreWithin journal over
within_both journal xs first over are within =
    let both = subst (λ l. AreWithin journal l) are within in (within_first journal first over both, within_last journal first over both)

whole_kept : (f g : Front) → f ⊑ g → (input before : List ℕ) (left written : Option (List ℕ)) (xs : List Exchange) (close : Close) → AreWithin f xs →
    WroteAll f input before left written xs close → WroteAll g input before left written xs close
whole_kept f g on input before left written xs close within h = record {
  are = h.are;
  told = told_kept f g on xs within h.told;
  written_is = h.written_is ∙ ap (λ l. Some (before ++ (l ++ last_word close))) (sym (responses_kept f g on 0 xs within));
  whole = h.whole;
  behind = h.behind;
  followed = h.followed;
  needed = h.needed;
}

-- how a connection ended reads the same off each later journal
pub ends_kept : {F : Type 0} (why : Closed F) (f g : Front) → f ⊑ g → (input before : List ℕ) (left written : Option (List ℕ)) (xs : List Exchange) → AreWithin f xs →
    EndsSession f input before left written xs why → EndsSession g input before left written xs why
ends_kept closed.End f g on input before left written xs within h = whole_kept f g on input before left written xs ended within h
ends_kept closed.Asked f g on input before left written xs within h = whole_kept f g on input before left written xs asked within h
ends_kept closed.Last f g on input before left written xs within h = whole_kept f g on input before left written xs last within h
ends_kept (closed.BadHttp why) f g on input before left written xs within h = whole_kept f g on input before left written xs (bad why) within h
ends_kept closed.Rests f g on input before left written xs within h = record {
  read = h.read;
  rest = h.rest;
  input_is = h.input_is;
  left_is = h.left_is;
  are = h.are;
  some = h.some;
  told = told_kept f g on xs within h.told;
  written_is = h.written_is ∙ ap (λ l. Some (before ++ l)) (sym (responses_kept f g on 0 xs within));
}
ends_kept closed.ReadFault f g on input before left written xs within h = record {
  read = h.read;
  rest = h.rest;
  input_is = h.input_is;
  left_is = h.left_is;
  behind = h.behind;
  are = h.are;
  begun = h.begun;
  told = told_kept f g on xs within h.told;
  written_is = h.written_is ∙ ap (λ l. Some (before ++ l)) (sym (responses_kept f g on 0 xs within));
}
ends_kept closed.WriteFault f g on input before left written xs within h =
    let both = within_both f xs h.first h.over h.are_both within in record {
      first = h.first;
      over = h.over;
      are_both = h.are_both;
      behind = h.behind;
      are = h.are;
      told = told_kept f g on h.first both.0 h.told;
      word = h.word;
      is_next = word_kept f g on (length h.first) h.behind h.over h.word both.1 h.is_next;
      part = h.part;
      begins = h.begins;
      written_is = h.written_is ∙ ap (λ l. Some (before ++ (l ++ h.part))) (sym (responses_kept f g on 0 h.first both.0));
    }
ends_kept closed.Memory f g on input before left written xs within h =
    let both = within_both f xs h.first h.over h.are_both within in record {
      first = h.first;
      over = h.over;
      are_both = h.are_both;
      behind = h.behind;
      are = h.are;
      told = told_kept f g on h.first both.0 h.told;
      is_next = h.is_next;
      written_is = h.written_is ∙ ap (λ l. Some (before ++ (l ++ memory_response))) (sym (responses_kept f g on 0 h.first both.0));
    }
ends_kept (closed.KeeperFault why) f g on input before left written xs within h =
    let both = within_both f xs h.first (h.over ∷ []) h.are_both within in record {
      first = h.first;
      over = h.over;
      are_both = h.are_both;
      behind = h.behind;
      are = h.are;
      told = told_kept f g on h.first both.0 h.told;
      rest = h.rest;
      is_next = h.is_next;
      is_call = h.is_call;
      written_is = h.written_is ∙ ap (λ l. Some (before ++ l)) (sym (responses_kept f g on 0 h.first both.0));
    }
