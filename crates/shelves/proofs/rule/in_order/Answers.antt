use Rattle.std.proofs.Common.{rules}
use Rattle.std.proofs.lemmas.List.Sorted.{answers_always}
use Rattle.shelves.specs.Rows.{goes_before}
use Rattle.shelves.proofs.Ruled.{sorted_in_order}
use Rattle.shelves.proofs.rule.in_order.Goals as goal

pub returns : goal.returns
returns c = sorted_in_order c.args.row.now c.is_sorted_by.result (c.is_sorted_by.ensures.cases goes_before (answers_always _ _ _ (λ f a r g h. search rules)))
