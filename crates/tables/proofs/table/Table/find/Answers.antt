use Rattle.std.proofs.Common.{rules}
use Rattle.std.proofs.iter.runs.Made.{chains}
use Rattle.tables.proofs.Walked.{held_if_found}
use Rattle.tables.proofs.table.Table.find.Goals as goal

pub returns : goal.returns
returns c = held_if_found c.args.number c.args.self.now.places _ (search (rules, chains))
