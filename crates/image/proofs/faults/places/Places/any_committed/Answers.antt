use Rattle.std.proofs.Common.{rules, tests, ◌≡◌, ℕ, ◌+◌, ◌-◌, ◌*◌, ◌≤◌, ◌==◌, take, drop, length, ap, ◌∙◌, arith}
use Rattle.std.proofs.lemmas.Iterator.{YieldsList}
use Rattle.std.proofs.lemmas.Iterator.Search.{any_from_yields_List}
use Rattle.std.proofs.lemmas.List.{get_or-take, get_or-drop, length-take, length-drop}
use Rattle.std.specs.Slice.Iter.{chunks_exact_rest, chunks_exact_steps}
use Rattle.fields.specs.Fields.{byte, field32}
use Rattle.image.proofs.Chunks.{chunks, chunks_come, committed_chunks}
use Rattle.image.proofs.faults.places.Places.any_committed.Goals as goal

pub returns : goal.returns
returns c =
    let bs = c.args.self.now.bytes.now in
    let start = c.args.self.now.start in
    let used = c.args.self.now.used in
    let xs = take (24 * used) (drop start bs) in
    let within : start + 24 * used ≤ length bs = c.args.self.now.within in
    let wide : start + 24 * used - start ≡ 24 * used = omega arith in
    let rest : chunks_exact_rest c.chunks_exact.result ≡ xs = c.chunks_exact.ensures.rest ∙ ap (λ n. take n (drop start bs)) wide in
    let come : YieldsList (chunks_exact_steps {A = ℕ}) (λ y. y.now) c.chunks_exact.result (chunks used xs) = record {
      runs = chunks_come used c.chunks_exact.result xs c.chunks_exact.ensures.size rest (omega (arith, length-take (24 * used) (drop start bs), length-drop start bs, within));
    } in
    any_from_yields_List (λ p. field32 p 12 == 0) _ _ c.any.result c.any.ensures.ran come (λ x b q k. search (rules, tests))
    ∙ committed_chunks bs start used 0 xs
    (λ k l.
    let place : start + k ≡ start + 24 * 0 + k = omega arith in
    get_or-take (24 * used) (drop start bs) k 0 l ∙ get_or-drop start bs k 0 ∙ ap (byte bs) place)
