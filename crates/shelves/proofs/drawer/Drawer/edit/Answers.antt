use Rattle.std.proofs.Common.{get_or, sym, refl, arith}
use Rattle.std.proofs.lemmas.Option.{slice_get-get_or}
use Rattle.std.proofs.lemmas.Bool.{true≢false}
use Rattle.shelves.specs.Drawn.{accepted_edit}
use Rattle.shelves.proofs.drawer.Drawer.edit.Goals as goal

pub returns : goal.returns
returns c =
    let d = c.args.self.now in
    let i = c.args.item in
    let x = get_or d.entries i c.index-self-item.result in
    let found = slice_get-get_or d.entries i c.index-self-item.result (omega arith) in
    let k = accepted_edit d i c.args.edit x c.in-Some.next c.if-item-self.false found c.in-Some.ensures in
    record {
      answer = sym k.answer;
      after = k.after;
      refused = λ h. absurd (true≢false h);
      step = λ _. record {
        before = x;
        after = c.in-Some.next;
        known = c.if-item-self.false;
        found = found;
        edited = c.in-Some.ensures;
        entries = refl;
        count = refl;
      };
    }
