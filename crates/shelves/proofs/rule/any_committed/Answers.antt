use Rattle.std.proofs.Common.{rules, tests, ◌∙◌}
use Rattle.std.proofs.lemmas.Iterator.{YieldsList-from_slice}
use Rattle.std.proofs.lemmas.Iterator.Search.{any_from_yields_List}
use Rattle.shelves.specs.Rows.{is_committed}
use Rattle.shelves.proofs.Ruled.{any_listed}
use Rattle.shelves.proofs.rule.any_committed.Goals as goal

pub returns : goal.returns
returns c =
    let vs = c.args.row.now in
    any_from_yields_List (λ v. is_committed v.state) _ _ c.any.result c.any.ensures.ran (YieldsList-from_slice vs cc) (λ x b q k. search (rules, tests))
    ∙ any_listed vs
