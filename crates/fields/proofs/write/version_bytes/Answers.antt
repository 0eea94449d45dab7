use Rattle.std.proofs.Common.{◌≡◌, ◌++◌, replicate, ap, ◌∙◌}
use borrow.Rule.Slice.PartMut.{put_mid}
use Rattle.shelves.specs.States.{state_number}
use Rattle.fields.specs.Written.{bytes32, bytes64}
use Rattle.fields.proofs.Pasted.{le32, le64}
use Rattle.fields.proofs.write.version_bytes.Goals as goal

pub returns-clause-value : goal.returns-clause-value
returns-clause-value c =
    let v = c.args.version in
    let n : c.copy_from_slice.new.self ≡ bytes32 v.number = c.copy_from_slice.ensures.after ∙ c.to_le_bytes.ensures ∙ le32 v.number in
    let t : c.copy_from_slice-2.new.self ≡ bytes32 v.stamp = c.copy_from_slice-2.ensures.after ∙ c.to_le_bytes-2.ensures ∙ le32 v.stamp in
    let r : c.copy_from_slice-3.new.self ≡ bytes32 v.mark = c.copy_from_slice-3.ensures.after ∙ c.to_le_bytes-3.ensures ∙ le32 v.mark in
    let s : c.copy_from_slice-4.new.self ≡ bytes32 (state_number v.state) =
    c.copy_from_slice-4.ensures.after ∙ c.to_le_bytes-4.ensures ∙ le32 c.from.result ∙ ap bytes32 c.from.ensures in
    let x : c.copy_from_slice-5.new.self ≡ bytes64 v.value = c.copy_from_slice-5.ensures.after ∙ c.to_le_bytes-5.ensures ∙ le64 v.value in
    λ i. put_mid 16 8 (put_mid 12 4 (put_mid 8 4 (put_mid 4 4 (n i ++ replicate 20 0) (t i)) (r i)) (s i)) (x i)
