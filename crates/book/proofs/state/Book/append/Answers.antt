-- The words behind the last record are written, and the invariant holds of one record more.
use Rattle.std.proofs.Common.{rules, ◌≡◌, ℕ, ◌+◌, ◌*◌, ◌<◌, true, cond, List, [], ◌∷◌, ◌++◌, length, take, set, sym, ap, ◌∙◌, arith}
use Rattle.std.proofs.lemmas.List.Sums.{sum_by_push}
use Rattle.book.specs.Records.{is_question, question_count}
use Rattle.book.specs.Rules.{sound, fits}
use Rattle.book.specs.Words.{reads, writes}
use Rattle.book.specs.View.{records_of}
use Rattle.book.proofs.Books.{length-records}
use Rattle.book.proofs.Coding.{written, written_reads, written_words}
use Rattle.book.proofs.Judging.{judge_ok, sound-push}
use Rattle.book.proofs.state.Book.append.Goals as goal
use Rattle.book.proofs.state.Book.append.Goals.{After-words-head}

pub bounds-self-at : goal.bounds-self-at
bounds-self-at c = omega (arith, (judge_ok (records_of c.args.self.now) c.args.item c.requires).1, length-records c.args.self.now (omega arith))

pub bounds-self-at-2 : goal.bounds-self-at-2
bounds-self-at-2 c = omega (arith, (judge_ok (records_of c.args.self.now) c.args.item c.requires).1, length-records c.args.self.now (omega arith))

-- the words and the records after the two writes
module _ (c : After-words-head) where
  abbrev n : ℕ
  n = c.args.self.now.records

  abbrev old : List ℕ
  old = c.args.self.now.words

  abbrev new : List ℕ
  new = set (set old (2 * n) c.words-head.result.0) (2 * n + 1) c.words-head.result.1

  few : n < 4096
  few = omega (arith, (judge_ok (records_of c.args.self.now) c.args.item c.requires).1, length-records c.args.self.now (omega arith))

  room : 2 * n + 1 < length old
  room = omega (arith, few)

  fit : fits c.args.item ≡ true
  fit = (judge_ok (records_of c.args.self.now) c.args.item c.requires).0

  is_written : new ≡ written old n c.args.item
  is_written = ap (λ w. set (set old (2 * n) w.0) (2 * n + 1) w.1) c.words-head.ensures

  one_more : reads (take (2 * (n + 1)) new) ≡ reads (take (2 * n) old) ++ c.args.item ∷ []
  one_more = ap (λ l. reads (take (2 * (n + 1)) l)) is_written ∙ written_reads old n c.args.item room fit

pub invariant_of-self : goal.invariant_of-self
invariant_of-self c =
    let d = (goal.at.invariant_of-self c).After-words-head in
    let rs = reads (take (2 * n d) (old d)) in
    let r = c.args.item in
    let asked : c.from.result ≡ cond (is_question r) 1 0 = search rules in
    record {
      number = omega (arith, few d);
      written = ap writes (one_more d) ∙ sym (ap (λ l. take (2 * (n d + 1)) l) (is_written d) ∙ written_words (old d) (n d) r (room d) (fit d) c.args.self.now.written);
      counted = omega (arith, c.args.self.now.counted, asked, ap question_count (one_more d) ∙ sum_by_push (λ x. cond (is_question x) 1 0) rs r);
      lawful = ap sound (one_more d) ∙ sound-push rs r c.args.self.now.lawful c.requires;
    }

pub returns : goal.returns
returns c = one_more (goal.at.returns c).After-words-head
