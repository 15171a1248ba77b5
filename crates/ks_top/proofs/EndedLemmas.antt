-- A token that an exchange ended is refused in each exchange that has seen this.
use Rattle.std.proofs.Common.{◌≡◌, List, [], ◌∷◌, arith, sym, ap, subst, ◌∙◌}
use Rattle.std.specs.List.{AllByRecursion}
use Rattle.ks_base.proofs.AmongLemmas.{all_among}
use Rattle.ks_keeper.specs.Keeper.{Keeping}
use Rattle.ks_laws.proofs.LawLemmas.{earlier_is_lawful}
use Rattle.ks_machine.specs.Fronts.{Front, IsSound, ◌⊑◌, after, answer}
use Rattle.ks_machine.specs.Lawful.{IsLawful}
use Rattle.ks_server.proofs.TieLemmas.{all_both}
use Rattle.ks_server.specs.Exchanges.{Exchange, cut_at, front_after, left_by, replied, reply_to}
use Rattle.ks_server.specs.Laws.{IsPlaced}
use Rattle.ks_server.specs.Orders.{Goes, HasPlace}
use Rattle.ks_server.specs.Workers.{exchanges_of}
use Rattle.ks_tokens.proofs.AskLemmas.{ended_tokens_are_not_found}
use Rattle.ks_top.proofs.DeterminedLemmas.{placed_by}
use Rattle.ks_top.specs.Headline.{TellsOf, Worker, exchanges_by}
use Rattle.ks_top.specs.Laws.{RefusedEverAfter}

places_in : (journal seen now : Front) (xs : List Exchange) → Goes journal seen xs now → AllByRecursion (λ (x : Exchange). HasPlace journal x) xs
places_in journal seen now [] goes = tt
places_in journal seen now (x ∷ xs) goes = (goes.1, places_in journal (front_after journal x) now xs goes.2)

places_by : {Link : Type 0} (first journal : Front) (workers : List (Worker Link)) → AllByRecursion (TellsOf first journal) workers
    → AllByRecursion (λ (x : Exchange). HasPlace journal x) (exchanges_by workers)
places_by first journal [] each = tt
places_by first journal (w ∷ workers) each =
    all_both (λ (x : Exchange). HasPlace journal x) (exchanges_of w.connections) (exchanges_by workers)
    (places_in journal _ each.0.in_order.now (exchanges_of w.connections) each.0.in_order.goes) (places_by first journal workers each.1)

-- the front that a receipt cuts off is as lawful as the journal
cut_lawful : (first journal : Front) (x : Exchange) → IsLawful journal → IsPlaced first journal x → HasPlace journal x → IsLawful (cut_at journal x.receipt)
cut_lawful first journal x lawful placed place =
    let sound : IsSound (cut_at journal x.receipt) = record { moments = place.lawful; kept = omega arith } in
    earlier_is_lawful (cut_at journal x.receipt) journal lawful placed.in_journal sound

pub refused_ever_after : (Link Seat : Type 0) {K : Type 0} (keeping : Keeping K) → RefusedEverAfter Link Seat keeping
refused_ever_after Link Seat {K} keeping view stream what old new f state run x y call token ended among later =
    let first = run.first in
    let journal = run.journal in
    let xs = exchanges_by run.workers in
    let front = cut_at journal y.receipt in
    let placed = all_among (λ (z : Exchange). IsPlaced first journal z) xs y (placed_by first journal run.workers run.each) among in
    let place = all_among (λ (z : Exchange). HasPlace journal z) xs y (places_by first journal run.workers run.each) among in
    let left : front_after journal x ≡ after (cut_at journal x.receipt) ended.call = λ i. left_by (cut_at journal x.receipt) (ended.asked i) (ended.decided i) in
    let said : reply_to journal y ≡ answer front call = ap (replied front) later.asked in
    let refused = ended_tokens_are_not_found (cut_at journal x.receipt) front ended.call call token ended.ended
    (cut_lawful first journal y run.stands.stands.lawful placed place) (subst (λ (h : Front). h ⊑ front) left later.seen) later.about in
    (λ told is. refused.0 told (sym said ∙ is), λ caller. let why = refused.1 caller in (why.0, said ∙ why.1))
