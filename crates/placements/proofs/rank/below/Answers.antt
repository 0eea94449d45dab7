use Rattle.std.proofs.Common.{ltb, rules, tests, sym, ◌∙◌, ◌^◌, arith}
use Rattle.std.proofs.lemmas.Iterator.{YieldsList-from_slice, YieldsList-from_map}
use Rattle.std.proofs.lemmas.Iterator.Consumers.{fits_by_from_yields_list, sum_by_from_yields_List}
use Rattle.placements.specs.declared.entry.Entry.{Entry}
use Rattle.placements.specs.Ranks.{one_if}
use Rattle.placements.proofs.Ranking.{below_sum, below_sum_all}
use Rattle.placements.proofs.rank.below.Goals as goal

-- a count is at most the number of entries, which fits
pub sum-requires-clause-fits : goal.sum-requires-clause-fits
sum-requires-clause-fits c =
    let es = c.args.entries.now in
    let t = c.args.limit in
    fits_by_from_yields_list _ es _ (2 ^ 64)
    (YieldsList-from_map _ (λ (e : Entry). one_if (ltb e.stamp t)) (YieldsList-from_slice es (cc)) c.map.ensures.closure (λ x r q h. search (rules, tests)))
    (omega (arith, below_sum_all t es, c.iter.ensures))

pub returns : goal.returns
returns c =
    let es = c.args.entries.now in
    let t = c.args.limit in
    sum_by_from_yields_List _ es _ c.sum.result c.sum.ensures.ran
    (YieldsList-from_map _ (λ (e : Entry). one_if (ltb e.stamp t)) (YieldsList-from_slice es (cc)) c.map.ensures.closure (λ x r q h. search (rules, tests)))
    ∙ sym (below_sum t es)
