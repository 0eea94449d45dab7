-- Runs one after the other, and the step of a loop that makes them. Assumes nothing.
use Rattle.std.proofs.Common.{◌≡◌, ℕ, ◌+◌, ◌<◌, List, [], ◌∷◌, ◌++◌, length, get_or, take, drop, set, sym, refl, ap, ◌∙◌, ap₂, append_assoc, arith}
use Rattle.std.proofs.lemmas.List.{length-take-le, take_more, take_at, drop_more, set_at}
use Rattle.orders.specs.Orders.{Order}
use Rattle.placements.specs.Placings.{Placing}
use Rattle.shelves.specs.Items.{Item}
use Rattle.shelves.specs.declared.edit.Edit.{Edit}
use Rattle.rules.specs.Answers.{Answer}
use Rattle.rules.specs.Runs.{step, run}
use Rattle.rules.specs.States.{Parts, State}
use Rattle.rules.specs.declared.call.Call.{Call}
use Rattle.rules.specs.declared.call.Call.TheVariants.{Tick}
use Rattle.scheduler.specs.Views.{parts_of, state_of}
use Rattle.scheduler.specs.declared.state.Scheduler.{Scheduler}
use Rattle.runs.specs.Running.{Ran}
use Rattle.runs.specs.Sending.{Sends}

pub answers_append : (P : Parts) (s : State) (h cs : List Call) → (run P s (h ++ cs)).0 ≡ (run P s h).0 ++ (run P (run P s h).1 cs).0
answers_append P s [] cs = refl
answers_append P s (c ∷ h) cs = ap (λ rs. (step P s c).0 ∷ rs) (answers_append P (step P s c).1 h cs)

pub state_append : (P : Parts) (s : State) (h cs : List Call) → (run P s (h ++ cs)).1 ≡ (run P (run P s h).1 cs).1
state_append P s [] cs = refl
state_append P s (c ∷ h) cs = state_append P (step P s c).1 h cs

pub length_answers : (P : Parts) (s : State) (cs : List Call) → length (run P s cs).0 ≡ length cs
length_answers P s [] = refl
length_answers P s (c ∷ cs) = ap (λ n. Prim.Native.Nat.suc n) (length_answers P (step P s c).1 cs)

-- one more call of a list: its answer goes behind those before it
module _ {O P S : Type 0} (order : O → Order) (placing : P → Placing) (items : S → List Item) (edits : S → ℕ → Edit → S → Type 0) where
  pub ran_more : (cs : List Call) (i : ℕ) (s t u : Scheduler O P S) (before after : List Answer) (r : Answer) → i < length cs → i < length before
      → Ran order placing items (take i cs) s t before after → Sends order placing items edits (get_or cs i Tick) t u r
      → Ran order placing items (take (i + 1) cs) s u before (set after i r)
  ran_more cs i s t u before after r lt room ran sends =
      let parts : Parts = parts_of order placing s in
      let c : Call = get_or cs i Tick in
      let o : List Answer × State = run parts (state_of items s) (take i cs) in
      let same : parts_of order placing t ≡ parts = λ j. record { order = order (ran.order_stays j); placing = placing (ran.placement_stays j) } in
      let taken : take (i + 1) cs ≡ take i cs ++ c ∷ [] = take_more cs i Tick lt in
      let front : length (take i cs) ≡ i = length-take-le i cs (omega arith) in
      let next : length (take (i + 1) cs) ≡ i + 1 = length-take-le (i + 1) cs (omega arith) in
      record {
        answers =
            ap (λ rs. set rs i r) (ran.answers ∙ ap (λ k. o.0 ++ drop k before) front ∙ ap (λ rs. o.0 ++ rs) (drop_more before i r room))
            ∙ set_at o.0 (get_or before i r) (drop (i + 1) before) r i (length_answers parts (state_of items s) (take i cs) ∙ front)
            ∙ ap (λ q. o.0 ++ q ∷ drop (i + 1) before) (sends.answer ∙ ap₂ (λ q x. (step q x c).0) same ran.state)
            ∙ sym (append_assoc o.0 ((step parts o.1 c).0 ∷ []) (drop (i + 1) before))
            ∙ ap₂ (λ rs k. rs ++ drop k before) (sym (answers_append parts (state_of items s) (take i cs) (c ∷ [])) ∙ ap (λ ds. (run parts (state_of items s) ds).0) (sym taken)) (sym next);
        state =
            sends.after
            ∙ ap₂ (λ q x. (step q x c).1) same ran.state
            ∙ sym (state_append parts (state_of items s) (take i cs) (c ∷ []))
            ∙ ap (λ ds. (run parts (state_of items s) ds).1) (sym taken);
        order_stays = sends.order_stays ∙ ran.order_stays;
        placement_stays = sends.placement_stays ∙ ran.placement_stays;
      }

-- the answers stand at the front of the list
pub front_answers : (P : Parts) (s : State) (cs : List Call) (after rest : List Answer) → after ≡ (run P s cs).0 ++ rest → take (length cs) after ≡ (run P s cs).0
front_answers P s cs after rest e = ap (take (length cs)) e ∙ take_at (run P s cs).0 rest (length cs) (length_answers P s cs)
