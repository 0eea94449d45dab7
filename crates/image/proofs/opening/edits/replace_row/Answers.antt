use Rattle.std.proofs.Common.{◌+◌, ◌*◌, length, ap, ap₂, ◌∙◌, arith}
use Rattle.shelves.specs.Edits.{blank}
use Rattle.shelves.specs.RowEdits.{versions}
use Rattle.shelves.specs.RowsAfter.{length_versions}
use Rattle.fields.specs.Written.{row_bytes, version_bytes, written}
use Rattle.image.proofs.Freed.{freed_written, kept_written}
use Rattle.image.proofs.opening.edits.replace_row.Goals as goal

pub returns-then-len : goal.returns-then-len
returns-then-len c =
    let bs = c.args.bytes.now in
    let start = c.args.start in
    let r = c.args.before.now in
    let s = c.args.after.now in
    c.write_row-then-len.ensures.after
    ∙ ap₂ (λ xs k. written xs (start + 24 * k) (version_bytes blank)) (c.write_row.ensures.after ∙ ap (λ ws. written bs start (row_bytes ws)) c.as_slice.ensures) c.len-then-len.ensures
    ∙ freed_written bs start (length (versions r)) (versions s) c.requires (omega (arith, length_versions s, s.few)) (omega (arith, length_versions r, r.few))
    (omega (arith, c.if-len.true, c.len.ensures, c.len-2.ensures))

pub returns-else-len : goal.returns-else-len
returns-else-len c =
    let bs = c.args.bytes.now in
    let start = c.args.start in
    let r = c.args.before.now in
    let s = c.args.after.now in
    c.write_row.ensures.after
    ∙ ap (λ ws. written bs start (row_bytes ws)) c.as_slice.ensures
    ∙ kept_written bs start (length (versions r)) (versions s) c.requires (omega (arith, length_versions s, s.few)) (omega (arith, c.if-len.false, c.len.ensures, c.len-2.ensures))
