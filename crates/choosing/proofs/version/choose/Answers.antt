use Rattle.std.proofs.Common.{ℕ, List, Option, None, ◌∙◌, arith, rules, refl}
use Rattle.std.specs.List.{slice_get}
use Rattle.std.proofs.lemmas.Iterator.{YieldsList-from_range}
use Rattle.std.proofs.lemmas.Iterator.Consumers.{fold_from_yields_List}
use Rattle.shelves.specs.Items.{row_of}
use Rattle.shelves.specs.declared.version.Version.{Version}
use Rattle.rules.specs.declared.decision.Chosen.{Chosen}
use Rattle.choosing.specs.Wants.{passes, later}
use Rattle.choosing.proofs.Walked.{last_by_fold}
use Rattle.choosing.proofs.version.choose.Goals as goal

pub returns : goal.returns
returns g c =
    let row : List Version = row_of (g.S.Shelf.items c.args.shelf.now) c.args.item in
    let p = passes c.args.wanted in
    fold_from_yields_List _ (λ (b : Option Chosen) (j : ℕ). later p b j (slice_get row j)) None c.fold.result c.fold.ensures.ran
    (YieldsList-from_range 0 c.versions.result c.versions.result refl (omega arith))
    (λ a x b q h. search rules)
    ∙ last_by_fold p row c.versions.result 0 None (omega (arith, c.versions.ensures))
