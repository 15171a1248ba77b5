-- Ties to a desk and its folder compose.
use Rattle.std.proofs.Common.{◌≡◌, ℕ, ◌+◌, Bool, List, [], ◌∷◌, ◌++◌, length, replicate, Some, refl, sym, ap, subst, ◌∙◌, arith, append_assoc, append-nil}
use Rattle.std.specs.List.{AllByRecursion, count_by}
use Rattle.std.proofs.lemmas.List.{map-append, replicate-append-replicate}
use Rattle.std.proofs.lemmas.List.Concat.{flat_map-append}
use Rattle.std.proofs.lemmas.List.Sums.{sum_by-append}
use Rattle.ks_machine.specs.Outcomes.{bytes_in}
use Rattle.ks_outside.proofs.CallLemmas.{makes_both, makes_none}
use Rattle.ks_outside.specs.declared.desk_call.DeskCall.{DeskCall}
use Rattle.ks_outside.specs.declared.desk_call.DeskCall.TheVariants as desk_call
use Rattle.ks_outside.specs.Desks.{DeskState}
use Rattle.ks_outside.specs.Files.{DirState}
use Rattle.ks_server.specs.Exchanges.{Exchange, receipts_of}
use Rattle.ks_server.specs.Ties.{AreCallsIn, AreNumbered, HasFolder, HaveReadings, IsAsked, Rises, Tied, calls_in, drawn_by, given_up, is_failed_draw, readings_after}

pub all_both : (P : Exchange → Type 0) (xs ys : List Exchange) → AllByRecursion P xs → AllByRecursion P ys → AllByRecursion P (xs ++ ys)
all_both P [] ys one other = other
all_both P (x ∷ xs) ys one other = (one.0, all_both P xs ys one.1 other)

-- counts of faults

pub rises_none : (n : ℕ) → Rises 0 n n
rises_none n = record { kept = omega arith; rose = omega arith }

pub rises_both : (m n a b c : ℕ) → Rises m a b → Rises n b c → Rises (m + n) a c
rises_both m n a b c one other = record { kept = omega (arith, one.kept, other.kept); rose = omega (arith, one.kept, one.rose, other.kept, other.rose) }

count_both : (p : Exchange → Bool) (xs ys : List Exchange) → count_by p (xs ++ ys) ≡ count_by p xs + count_by p ys
count_both p xs ys = sum_by-append _ xs ys

rises_counted : (p : Exchange → Bool) (xs ys : List Exchange) (a b c : ℕ) → Rises (count_by p xs) a b → Rises (count_by p ys) b c → Rises (count_by p (xs ++ ys)) a c
rises_counted p xs ys a b c one other =
    subst (λ n. Rises n a c) (sym (count_both p xs ys)) (rises_both (count_by p xs) (count_by p ys) a b c one other)

-- readings

readings_both : (given mid rest : List ℕ) (xs ys : List Exchange) → HaveReadings given xs mid → HaveReadings mid ys rest → HaveReadings given (xs ++ ys) rest
readings_both given mid rest [] ys one other = subst (λ l. HaveReadings l ys rest) (sym one) other
readings_both given mid rest (x ∷ xs) ys one other = (one.0, readings_both (readings_after x.asked given) mid rest xs ys one.1 other)

-- calls

more_given_up : (m n : ℕ) → given_up m ++ given_up n ≡ given_up (m + n)
more_given_up m n = replicate-append-replicate m n desk_call.Ready

given_up_first : (m : ℕ) (xs : List Exchange) (called : List DeskCall) → AreCallsIn xs called → AreCallsIn xs (given_up m ++ called)
given_up_first m [] called h = (m + h.0, ap (λ l. given_up m ++ l) h.1 ∙ more_given_up m h.0)
given_up_first m (x ∷ xs) called h = (
  m + h.0,
  h.1,
  ap (λ l. given_up m ++ l) h.2 ∙ sym (append_assoc (given_up m) (given_up h.0) (calls_in x ++ h.1)) ∙ ap (λ l. l ++ (calls_in x ++ h.1)) (more_given_up m h.0),
  h.3,
)

calls_both : (xs ys : List Exchange) (one other : List DeskCall) → AreCallsIn xs one → AreCallsIn ys other → AreCallsIn (xs ++ ys) (one ++ other)
calls_both [] ys one other first second =
    subst (λ l. AreCallsIn ys (l ++ other)) (sym first.1) (given_up_first first.0 ys other second)
calls_both (x ∷ xs) ys one other first second = (
  first.0,
  first.1 ++ other,
  ap (λ l. l ++ other) first.2 ∙ append_assoc (given_up first.0) (calls_in x ++ first.1) other
      ∙ ap (λ l. given_up first.0 ++ l) (append_assoc (calls_in x) first.1 other),
  calls_both xs ys first.1 other first.3 second,
)

-- ties

pub tied_none : {Link : Type 0} (desk : DeskState Link) (dir : DirState) → Tied desk desk dir dir []
tied_none desk dir = record {
  asked = tt;
  receipts = λ before told. told ∙ ap Some (sym (append-nil before));
  draws = λ bytes told. (bytes, refl, told);
  readings = λ given told. (given, refl, told);
  called = [];
  in_turn = (0, refl);
  calls = makes_none desk.calls;
  failed_draws = rises_none desk.fill_faults;
  failed_folders = rises_none dir.faults;
  folder = λ files told. tt;
  files = refl;
}

pub tied_both : {Link : Type 0} (a b c : DeskState Link) (d e f : DirState) (xs ys : List Exchange) → Tied a b d e xs → Tied b c e f ys → Tied a c d f (xs ++ ys)
tied_both a b c d e f xs ys one other = record {
  asked = all_both IsAsked xs ys one.asked other.asked;
  receipts = λ before told.
      other.receipts (before ++ receipts_of xs) (one.receipts before told)
      ∙ ap Some (append_assoc before (receipts_of xs) (receipts_of ys) ∙ ap (λ l. before ++ l) (sym (map-append (λ (x : Exchange). x.receipt) xs ys)));
  draws = λ bytes told.
      let first = one.draws bytes told in
      let then = other.draws first.0 first.2 in (
        then.0,
        first.1 ∙ ap (λ l. drawn_by xs ++ l) then.1 ∙ sym (append_assoc (drawn_by xs) (drawn_by ys) then.0)
            ∙ ap (λ l. l ++ then.0) (sym (flat_map-append (λ (x : Exchange). bytes_in x.receipt.draw) xs ys)),
        then.2,
      );
  readings = λ given told.
      let first = one.readings given told in
      let then = other.readings first.0 first.2 in
      (then.0, readings_both given first.0 then.0 xs ys first.1 then.1, then.2);
  called = one.called ++ other.called;
  in_turn = calls_both xs ys one.called other.called one.in_turn other.in_turn;
  calls = makes_both one.called other.called a.calls b.calls c.calls one.calls other.calls;
  failed_draws = rises_counted (λ x. is_failed_draw x.receipt.draw) xs ys a.fill_faults b.fill_faults c.fill_faults one.failed_draws other.failed_draws;
  failed_folders = rises_counted (λ x. x.receipt.folder) xs ys d.faults e.faults f.faults one.failed_folders other.failed_folders;
  folder = λ files told. all_both (λ x. HasFolder files x.asked) xs ys (one.folder files told) (other.folder files (one.files ∙ told));
  files = other.files ∙ one.files;
}

-- numbers

pub numbered_both : (connection number : ℕ) (xs ys : List Exchange) → AreNumbered connection number xs → AreNumbered connection (number + length xs) ys
    → AreNumbered connection number (xs ++ ys)
numbered_both connection number [] ys one other = subst (λ n. AreNumbered connection n ys) (omega arith) other
numbered_both connection number (x ∷ xs) ys one other =
    (one.0, one.1, numbered_both connection (number + 1) xs ys one.2 (subst (λ n. AreNumbered connection n ys) (omega arith) other))
