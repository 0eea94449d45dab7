use Rattle.std.proofs.Common.{rules, tests, ◌∙◌}
use Rattle.std.proofs.lemmas.Iterator.{YieldsList-from_slice}
use Rattle.std.proofs.lemmas.Iterator.Search.{position_from_yields_List}
use Rattle.tables.specs.Places.{is_free}
use Rattle.tables.proofs.Walked.{free_by_position}
use Rattle.tables.proofs.table.Table.first_free.Goals as goal

pub returns : goal.returns
returns c =
    let ps = c.args.self.now.places in
    position_from_yields_List is_free _ _ _ c.position.ensures.ran (YieldsList-from_slice ps (cc)) (λ x b q k. search (rules, tests))
    ∙ free_by_position ps
