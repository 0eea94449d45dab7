use Rattle.rules.proofs.Lasting.{newest_never_lost}
use Rattle.rules.proofs.Reaching.{rows_keep_rule, written_version_stands, pending_has_owner, active_write_stands}
use Rattle.rules.proofs.laws.reached_rows.Goals as goal

pub returns : goal.returns
returns c = record {
  rule = rows_keep_rule;
  written = written_version_stands;
  owner = pending_has_owner;
  active = active_write_stands;
  newest = newest_never_lost;
}
