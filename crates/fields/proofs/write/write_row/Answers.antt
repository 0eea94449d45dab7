use Rattle.std.proofs.Common.{◌+◌, ◌*◌, ◌<◌, ◌≤◌, [], ◌∷◌, length, get_or, take, sym, ap₂, ◌∙◌, subst, arith}
use Rattle.std.specs.List.{AllByRecursion}
use Rattle.std.proofs.ByRecursion.{All-append}
use Rattle.std.proofs.lemmas.Bool.{false≢true}
use Rattle.std.proofs.lemmas.List.{take_more}
use Rattle.shelves.specs.Edits.{blank}
use Rattle.fields.specs.Written.{row_bytes, written, VersionFits}
use Rattle.fields.proofs.Pasted.{length_row_bytes, row_written_more, has_room_false, written_if_none}
use Rattle.fields.proofs.write.write_row.Goals as goal

pub returns-then-versions-bytes : goal.returns-then-versions-bytes
returns-then-versions-bytes c =
    let bs = c.args.bytes.now in
    let ds = row_bytes c.args.versions.now in
    let none : length c.args.bytes.now < c.args.start + length (row_bytes c.args.versions.now) =
    omega (arith, length_row_bytes c.args.versions.now, c.if-versions-bytes.true) in
    record {
      answer = sym (has_room_false bs c.args.start ds none);
      after = sym (written_if_none bs c.args.start ds none);
      fits = λ h. absurd (false≢true h);
    }

pub loop-j-preserved : goal.loop-j-preserved
loop-j-preserved c =
    let vs = c.args.versions.now in
    let j = c.loop-j.j in
    let room : c.args.start + 24 * length c.args.versions.now ≤ length c.args.bytes.now = omega (arith, c.if-versions-bytes.false) in (
      c.write.ensures.after
          ∙ ap₂ (λ xs ds. written xs (c.args.start + 24 * j) ds) c.loop-j.invariant.0 c.version_bytes.ensures.value
          ∙ row_written_more c.args.bytes.now c.args.start j vs blank room c.loop-j-test.true,
      subst (AllByRecursion VersionFits) (sym (take_more vs j blank c.loop-j-test.true))
          (All-append VersionFits (take j vs) (get_or vs j blank ∷ []) c.loop-j.invariant.1 (c.version_bytes.ensures.fits, tt)),
    )
