use Rattle.std.proofs.Common.{◌≡◌, true, false, rules, tests, ◌∙◌}
use Rattle.std.proofs.lemmas.Iterator.{YieldsList-from_slice, YieldsList-from_map, first_from_find}
use Rattle.placements.specs.declared.entry.Entry.{Entry}
use Rattle.placements.specs.Ranks.{stamps, has_rank}
use Rattle.placements.proofs.Ranking.{answered, ranked_in_any_order}
use Rattle.placements.proofs.rank.ranked.Goals as goal

pub returns : goal.returns
returns c =
    let es = c.args.entries.now in
    let k = c.args.k in
    let a =
    answered es k c.find.result (first_from_find _ _ c.find.result (λ s. has_rank (stamps es) k s ≡ true) (λ s. has_rank (stamps es) k s ≡ false) c.find.ensures.ran
    (YieldsList-from_map _ (λ (e : Entry). e.stamp) (YieldsList-from_slice es (cc)) c.map.ensures.closure (λ x r q h. search (rules, tests)))
    (λ x q h. search (rules, tests)) (λ x q h. search (rules, tests))) in
    record { value = a.value; rank = a.rank; any_order = λ others h. a.value ∙ ranked_in_any_order es others k h }
