use Rattle.std.proofs.Common.{ℕ, List, ap, ◌∙◌}
use Rattle.std.specs.Borrow.{Bor}
use Rattle.std.specs.Prelude.{map}
use Rattle.ks_words.specs.Words.{check, drill, password, read_by, rotate, serve, setup, talk, words_of}
use Rattle.ks_words.proofs.DrillLemmas.{drill_in_range}
use Rattle.ks_words.proofs.FolderLemmas.{check_in_range, read_in_range, rotate_in_range, setup_in_range, talk_in_range}
use Rattle.ks_words.proofs.LentLemmas.{check_lent, drill_lent, else_lent, none_lent, password_lent, result_is, rotate_lent, serve_lent, setup_lent, talk_lent}
use Rattle.ks_words.proofs.PasswordLemmas.{password_in_range}
use Rattle.ks_words.proofs.ServeLemmas.{serve_in_range}
use Rattle.ks_words.proofs.words.read_words.Goals as goal

pub returns-in_default-clause-words : goal.returns-in_default-clause-words
returns-in_default-clause-words c =
    let are = ap (map (λ (word : Bor (List ℕ)). word.now)) c.as_slice-words.ensures.value ∙ c.in_ok-words.ensures in
    none_lent c.args.words.now c.as_slice-words.result.now are c.in_default.ensures.value

pub returns-then-eq-clause-words : goal.returns-then-eq-clause-words
returns-then-eq-clause-words c =
    let are = ap (map (λ (word : Bor (List ℕ)). word.now)) c.as_slice-words.ensures.value ∙ c.in_ok-words.ensures in
    result_is c.read_check.result (read_by check (map (λ (word : Bor (List ℕ)). word.now) c.as_slice-words.result.now)) (words_of c.args.words.now)
    (check_lent c.args.words.now c.as_slice-words.result.now c.in-Some.name.now c.eq.result are c.in-Some.ensures.value c.eq.ensures c.if-eq.true)
    c.read_check.ensures

pub returns-then-eq-2-clause-words : goal.returns-then-eq-2-clause-words
returns-then-eq-2-clause-words c =
    let are = ap (map (λ (word : Bor (List ℕ)). word.now)) c.as_slice-words.ensures.value ∙ c.in_ok-words.ensures in
    result_is c.read_talk.result (read_by talk (map (λ (word : Bor (List ℕ)). word.now) c.as_slice-words.result.now)) (words_of c.args.words.now)
    (talk_lent c.args.words.now c.as_slice-words.result.now c.in-Some.name.now c.eq.result c.eq-2.result are c.in-Some.ensures.value
    c.eq.ensures c.if-eq.false c.eq-2.ensures c.if-eq-2.true)
    c.read_talk.ensures

pub returns-then-eq-3-clause-words : goal.returns-then-eq-3-clause-words
returns-then-eq-3-clause-words c =
    let are = ap (map (λ (word : Bor (List ℕ)). word.now)) c.as_slice-words.ensures.value ∙ c.in_ok-words.ensures in
    result_is c.read_setup.result (read_by setup (map (λ (word : Bor (List ℕ)). word.now) c.as_slice-words.result.now)) (words_of c.args.words.now)
    (setup_lent c.args.words.now c.as_slice-words.result.now c.in-Some.name.now c.eq.result c.eq-2.result c.eq-3.result are c.in-Some.ensures.value
    c.eq.ensures c.if-eq.false c.eq-2.ensures c.if-eq-2.false c.eq-3.ensures c.if-eq-3.true)
    c.read_setup.ensures

pub returns-then-eq-4-clause-words : goal.returns-then-eq-4-clause-words
returns-then-eq-4-clause-words c =
    let are = ap (map (λ (word : Bor (List ℕ)). word.now)) c.as_slice-words.ensures.value ∙ c.in_ok-words.ensures in
    result_is c.read_rotate.result (read_by rotate (map (λ (word : Bor (List ℕ)). word.now) c.as_slice-words.result.now)) (words_of c.args.words.now)
    (rotate_lent c.args.words.now c.as_slice-words.result.now c.in-Some.name.now c.eq.result c.eq-2.result c.eq-3.result c.eq-4.result are c.in-Some.ensures.value
    c.eq.ensures c.if-eq.false c.eq-2.ensures c.if-eq-2.false c.eq-3.ensures c.if-eq-3.false c.eq-4.ensures c.if-eq-4.true)
    c.read_rotate.ensures

pub returns-then-eq-5-clause-words : goal.returns-then-eq-5-clause-words
returns-then-eq-5-clause-words c =
    let are = ap (map (λ (word : Bor (List ℕ)). word.now)) c.as_slice-words.ensures.value ∙ c.in_ok-words.ensures in
    result_is c.read_serve.result (read_by serve (map (λ (word : Bor (List ℕ)). word.now) c.as_slice-words.result.now)) (words_of c.args.words.now)
    (serve_lent c.args.words.now c.as_slice-words.result.now c.in-Some.name.now c.eq.result c.eq-2.result c.eq-3.result c.eq-4.result c.eq-5.result are c.in-Some.ensures.value
    c.eq.ensures c.if-eq.false c.eq-2.ensures c.if-eq-2.false c.eq-3.ensures c.if-eq-3.false c.eq-4.ensures c.if-eq-4.false c.eq-5.ensures c.if-eq-5.true)
    c.read_serve.ensures

pub returns-then-eq-6-clause-words : goal.returns-then-eq-6-clause-words
returns-then-eq-6-clause-words c =
    let are = ap (map (λ (word : Bor (List ℕ)). word.now)) c.as_slice-words.ensures.value ∙ c.in_ok-words.ensures in
    result_is c.read_password.result (read_by password (map (λ (word : Bor (List ℕ)). word.now) c.as_slice-words.result.now)) (words_of c.args.words.now)
    (password_lent c.args.words.now c.as_slice-words.result.now c.in-Some.name.now c.eq.result c.eq-2.result c.eq-3.result c.eq-4.result c.eq-5.result c.eq-6.result are
    c.in-Some.ensures.value c.eq.ensures c.if-eq.false c.eq-2.ensures c.if-eq-2.false c.eq-3.ensures c.if-eq-3.false c.eq-4.ensures c.if-eq-4.false
    c.eq-5.ensures c.if-eq-5.false c.eq-6.ensures c.if-eq-6.true)
    c.read_password.ensures

pub returns-then-eq-7-clause-words : goal.returns-then-eq-7-clause-words
returns-then-eq-7-clause-words c =
    let are = ap (map (λ (word : Bor (List ℕ)). word.now)) c.as_slice-words.ensures.value ∙ c.in_ok-words.ensures in
    result_is c.read_drill.result (read_by drill (map (λ (word : Bor (List ℕ)). word.now) c.as_slice-words.result.now)) (words_of c.args.words.now)
    (drill_lent c.args.words.now c.as_slice-words.result.now c.in-Some.name.now c.eq.result c.eq-2.result c.eq-3.result c.eq-4.result c.eq-5.result c.eq-6.result c.eq-7.result are
    c.in-Some.ensures.value c.eq.ensures c.if-eq.false c.eq-2.ensures c.if-eq-2.false c.eq-3.ensures c.if-eq-3.false c.eq-4.ensures c.if-eq-4.false
    c.eq-5.ensures c.if-eq-5.false c.eq-6.ensures c.if-eq-6.false c.eq-7.ensures c.if-eq-7.true)
    c.read_drill.ensures

pub returns-clause-words : goal.returns-clause-words
returns-clause-words c =
    let are = ap (map (λ (word : Bor (List ℕ)). word.now)) c.as_slice-words.ensures.value ∙ c.in_ok-words.ensures in
    else_lent c.args.words.now c.as_slice-words.result.now c.in-Some.name.now c.eq.result c.eq-2.result c.eq-3.result c.eq-4.result c.eq-5.result c.eq-6.result c.eq-7.result are
    c.in-Some.ensures.value c.eq.ensures c.if-eq.false c.eq-2.ensures c.if-eq-2.false c.eq-3.ensures c.if-eq-3.false c.eq-4.ensures c.if-eq-4.false
    c.eq-5.ensures c.if-eq-5.false c.eq-6.ensures c.if-eq-6.false c.eq-7.ensures c.if-eq-7.false

pub returns-then-eq-clause-range : goal.returns-then-eq-clause-range
returns-then-eq-clause-range c = read_in_range check c.read_check.result (map (λ (word : Bor (List ℕ)). word.now) c.as_slice-words.result.now) check_in_range c.read_check.ensures

pub returns-then-eq-2-clause-range : goal.returns-then-eq-2-clause-range
returns-then-eq-2-clause-range c = read_in_range talk c.read_talk.result (map (λ (word : Bor (List ℕ)). word.now) c.as_slice-words.result.now) talk_in_range c.read_talk.ensures

pub returns-then-eq-3-clause-range : goal.returns-then-eq-3-clause-range
returns-then-eq-3-clause-range c = read_in_range setup c.read_setup.result (map (λ (word : Bor (List ℕ)). word.now) c.as_slice-words.result.now) setup_in_range c.read_setup.ensures

pub returns-then-eq-4-clause-range : goal.returns-then-eq-4-clause-range
returns-then-eq-4-clause-range c = read_in_range rotate c.read_rotate.result (map (λ (word : Bor (List ℕ)). word.now) c.as_slice-words.result.now) rotate_in_range c.read_rotate.ensures

pub returns-then-eq-5-clause-range : goal.returns-then-eq-5-clause-range
returns-then-eq-5-clause-range c = read_in_range serve c.read_serve.result (map (λ (word : Bor (List ℕ)). word.now) c.as_slice-words.result.now) serve_in_range c.read_serve.ensures

pub returns-then-eq-6-clause-range : goal.returns-then-eq-6-clause-range
returns-then-eq-6-clause-range c =
    read_in_range password c.read_password.result (map (λ (word : Bor (List ℕ)). word.now) c.as_slice-words.result.now) password_in_range c.read_password.ensures

pub returns-then-eq-7-clause-range : goal.returns-then-eq-7-clause-range
returns-then-eq-7-clause-range c = read_in_range drill c.read_drill.result (map (λ (word : Bor (List ℕ)). word.now) c.as_slice-words.result.now) drill_in_range c.read_drill.ensures
