use Rattle.std.proofs.Common.{take, map, w32, sym, ap, ◌∙◌}
use Rattle.std.proofs.lemmas.List.{take-map}
use Rattle.std.proofs.lemmas.Result.{IfOk-weaker}
use Rattle.std.specs.Int.{from_le_bytes}
use Rattle.book.proofs.Quads.{quads, words_quads}
use Rattle.book.proofs.input.words_of.Goals as goal

pub returns : goal.returns
returns c =
    let bs = c.args.bytes.now in
    let words = ap (λ qs. map (from_le_bytes w32) (take 8194 qs)) c.as_chunks.ensures.front ∙ sym (take-map (from_le_bytes w32) 8194 (quads bs)) ∙ ap (take 8194) (words_quads bs) in
    IfOk-weaker c.first_words.result _ _ (λ v e. e ∙ words) c.first_words.ensures
