use Rattle.std.proofs.Common.{rules, length, set, sym, ap, ◌∙◌, subst, arith}
use Rattle.std.proofs.lemmas.List.{with_items_is}
use Rattle.std.proofs.lemmas.Bool.{true≢false}
use Rattle.shelves.proofs.Stays.{items_kept}
use Rattle.image.specs.Decided.{BytesEdited}
use Rattle.image.specs.Images.{is_image}
use Rattle.image.specs.Layout.{image_items}
use Rattle.image.specs.Opened.{items_of}
use Rattle.image.specs.Known.{image_ok, ok_image}
use Rattle.image.specs.Shelved.{image_traced, image_stays}
use Rattle.image.proofs.Deciding.{known_edit, row_written}
use Rattle.image.proofs.opening.Image.edit.Goals as goal

pub returns-in_default-clause-after : goal.returns-in_default-clause-after
returns-in_default-clause-after c = sym (items_kept (items_of c.args.self.now) c.args.item c.args.edit c.in_default.ensures)

pub replace_row-requires : goal.replace_row-requires
replace_row-requires c =
    let m = c.args.self.now in
    omega (arith, c.start-start.ensures, c.in-Some.ensures.known, (image_ok m.bytes.items m.ok).length_exact, ap length c.as_mut_slice-bytes.ensures.value)

pub invariant_of-self : goal.invariant_of-self
invariant_of-self c =
    let m = c.args.self.now in
    let bs = m.bytes.items in
    let i = c.args.item in
    let e = c.args.edit in
    let w = row_written bs i e c.in-Some.before c.in-Some.after c.in-Some.ensures m.ok c.requires (λ k. search rules) _ c.replace_row.new.bytes _ c.used.result c.len.result
    c.replace_row.ensures c.as_mut_slice-bytes.ensures.value c.start-start.ensures c.used.ensures c.len.ensures in
    let ws = set c.replace_row.new.bytes c.used.result c.len.result in
    let vec = with_items_is m.bytes ws (w.same_length ∙ sym m.bytes.ok.0) in
    record { ok = ap is_image vec ∙ ok_image ws (image_stays bs ws i e m.ok w.edited) }

pub returns : goal.returns
returns c =
    let m = c.args.self.now in
    let bs = m.bytes.items in
    let i = c.args.item in
    let e = c.args.edit in
    let w = row_written bs i e c.in-Some.before c.in-Some.after c.in-Some.ensures m.ok c.requires (λ k. search rules) _ c.replace_row.new.bytes _ c.used.result c.len.result
    c.replace_row.ensures c.as_mut_slice-bytes.ensures.value c.start-start.ensures c.used.ensures c.len.ensures in
    let ws = set c.replace_row.new.bytes c.used.result c.len.result in
    let vec = with_items_is m.bytes ws (w.same_length ∙ sym m.bytes.ok.0) in
    record {
      answer = sym (known_edit bs i e c.in-Some.ensures.known ∙ w.edited.accepted);
      after = ap image_items vec ∙ image_traced bs ws i e m.ok w.edited;
      refused = λ h. absurd (true≢false h);
      step = λ _. subst (BytesEdited bs i e) (sym vec) w.edited;
    }
