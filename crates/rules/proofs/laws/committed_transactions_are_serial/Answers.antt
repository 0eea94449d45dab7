use Rattle.rules.proofs.Shown.{committed_reader_above}
use Rattle.rules.proofs.Whole.{serial_run_gives_answered_values, running_order_exists}
use Rattle.rules.proofs.laws.committed_transactions_are_serial.Goals as goal

pub returns : goal.returns
returns c = record { law = serial_run_gives_answered_values; exists = running_order_exists; example = committed_reader_above }
