-- The laws of the rules, of a run whatever was sent before it. Assumes nothing.
use Rattle.std.proofs.Common.{◌≡◌, List, ◌++◌, sym, ap, ◌∙◌, subst}
use Rattle.rules.specs.Answers.{Answer}
use Rattle.rules.specs.Isolation.{SameParts}
use Rattle.rules.specs.Runs.{run, logged, log}
use Rattle.rules.specs.Serial.{feeds, committed_ones, RunningOrder}
use Rattle.rules.specs.Starts.{Lawful, Start}
use Rattle.rules.specs.States.{Parts, State}
use Rattle.rules.specs.declared.call.Call.{Call}
use Rattle.rules.proofs.Isolated.{hidden_calls_change_no_visible_answer}
use Rattle.rules.proofs.Whole.{serial_run_gives_answered_values, running_order_exists}
use Rattle.runs.specs.Running.{Fresh, Reaches, log_since, HidesCalls, IsSerial, HasRunningOrder, SeeTheSame}
use Rattle.runs.proofs.Stepwise.{answers_append, state_append}

starts : (P : Parts) (v : State) → Lawful P → Fresh P v → Start P v
starts P v lawful f = record { lawful = lawful; shelf = f.shelf; fit = f.fit; fresh = f.fresh }

-- parts of the same meaning keep the same laws
same_lawful : (P Q : Parts) → SameParts P Q → Lawful P → Lawful Q
same_lawful P Q same lawful =
    let path : P ≡ Q = λ i. record {
      order = record { levels = same.levels i; dominates = λ a b. same.dominates a b i };
      placing = λ d lo hi es. same.placing d lo hi es i;
    } in
    subst Lawful path lawful

module _ (P : Parts) (lawful : Lawful P) (s t : State) (cs : List Call) (rs : List Answer)
    (answers : rs ≡ (run P s cs).0) (after : t ≡ (run P s cs).1) where
  -- the log since the start is that of one run
  pub whole_log : (v : State) (h : List Call) → Reaches P v h s → log_since P v h cs rs ≡ log P v (h ++ cs)
  whole_log v h r =
      ap (λ qs. logged (h ++ cs) ((run P v h).0 ++ qs)) (answers ∙ ap (λ u. (run P u cs).0) r.sent)
      ∙ ap (logged (h ++ cs)) (sym (answers_append P v h cs))

  pub whole_state : (v : State) (h : List Call) → Reaches P v h s → t ≡ (run P v (h ++ cs)).1
  whole_state v h r = after ∙ ap (λ u. (run P u cs).1) r.sent ∙ sym (state_append P v h cs)

  pub hides_calls : HidesCalls P s t cs rs
  hides_calls v h r Q w l ds fresh same items rows seen =
      let law = hidden_calls_change_no_visible_answer P Q v w l (h ++ cs) ds (starts P v lawful r.from)
      (starts Q w (same_lawful P Q same lawful) fresh) same items rows seen in
      rw (whole_log v h r, whole_state v h r) law

  pub is_serial : IsSerial P s t cs rs
  is_serial v h r us order =
      let law = serial_run_gives_answered_values P v (h ++ cs) (starts P v lawful r.from) us
      (subst (λ log. RunningOrder P.order (committed_ones (feeds log)) us) (whole_log v h r) order) in
      rw (whole_log v h r, whole_state v h r) law

  pub has_running_order : HasRunningOrder P s cs rs
  has_running_order v h r = rw (whole_log v h r) (running_order_exists P v (h ++ cs) (starts P v lawful r.from))

-- two runs, each from any start
pub see_the_same : (P : Parts) → Lawful P → (s t : State) (cs : List Call) (rs : List Answer) → rs ≡ (run P s cs).0 → t ≡ (run P s cs).1
    → (Q : Parts) → Lawful Q → (u w : State) (ds : List Call) (qs : List Answer) → qs ≡ (run Q u ds).0 → w ≡ (run Q u ds).1
    → SeeTheSame P s t cs rs Q u w ds qs
see_the_same P lp s t cs rs ea es Q lq u w ds qs fa fs v h r x g q l same items rows seen =
    let law = hides_calls P lp s t cs rs ea es v h r Q x l (g ++ ds) q.from same items rows seen in
    rw (whole_log Q lq u w ds qs fa fs x g q, whole_state Q lq u w ds qs fa fs x g q) law
