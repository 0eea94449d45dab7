use Rattle.std.proofs.Common.{length, ap, arith}
use Rattle.std.proofs.ByRecursion.{All-get_or}
use Rattle.image.specs.Laid.{item_of}
use Rattle.image.proofs.Numbered.{item_is}
use Rattle.image.proofs.Fits.{rows_parts, short_rows}
use Rattle.image.proofs.Laying.{Short, laying_none, laying_more, laying_all}
use Rattle.image.proofs.layout.all.write_rows.Goals as goal

pub loop-item-init : goal.loop-item-init
loop-item-init g c = laying_none c.write_head.new.bytes (g.R.Rows.items c.args.rows.now)

pub write_item-requires-clause-short : goal.write_item-requires-clause-short
write_item-requires-clause-short g c =
    let items = g.R.Rows.items c.args.rows.now in
    let fit = rows_parts items (length c.args.bytes.now) c.requires in
    let i = c.loop-item.item in
    omega (
      arith,
      All-get_or Short items i (item_of items i) (omega arith) (short_rows items fit.rows),
      ap (λ it. length it.row) (item_is items i (item_of items i) (omega arith)),
    )

pub loop-item-preserved : goal.loop-item-preserved
loop-item-preserved g c =
    let items = g.R.Rows.items c.args.rows.now in
    let fit = rows_parts items (length c.args.bytes.now) c.requires in
    let i = c.loop-item.item in
    laying_more c.write_head.new.bytes c.loop-item.bytes c.write_item.new.bytes items i (item_of items i)
    (omega (arith, fit.exact, c.write_head.auto.bytes)) (short_rows items fit.rows) (omega arith)
    (item_is items i (item_of items i) (omega arith)) c.loop-item.invariant c.write_item.ensures.after c.write_item.ensures.fits

pub returns : goal.returns
returns g c =
    let items = g.R.Rows.items c.args.rows.now in
    let fit = rows_parts items (length c.args.bytes.now) c.requires in
    let bs = c.args.bytes.now in
    let all = laying_all bs c.write_head.new.bytes c.loop-item.bytes items c.loop-item.item fit.exact (short_rows items fit.rows)
    c.write_head.ensures (omega arith) c.loop-item.invariant in
    record { after = all.bytes; fits = all.fits }
