-- The record of a question: where it stands, and that it is a question.
use Rattle.std.proofs.Common.{◌≡◌, ℕ, zero, suc, ◌<◌, true, List, [], ◌∷◌, length, drop, IsSomeAnd, arith}
use Rattle.book.specs.declared.records.Record.{Record}
use Rattle.book.specs.declared.records.Record.TheVariants as is
use Rattle.book.specs.Records.{question_count}
use Rattle.book.specs.Spans.{before}
use Rattle.book.proofs.Asked.{questions-cons}
use Rattle.undoable.specs.Kinds.{Kind}
use Rattle.solver.specs.Solving.{first_suits}
use Rattle.solver.specs.Walks.{AsksAdmitted, first_question, question_within}

-- it is one of the book's records, and its question is admitted if the record is
pub before_less : (rs : List Record) (q : ℕ) → q < question_count rs → length (before q rs) < length rs
before_less [] q h = absurd (omega arith)
before_less (is.Fact f ∷ rs) q h = omega (arith, before_less rs q (omega (arith, questions-cons (is.Fact f) rs)))
before_less (is.Withdrawal f ∷ rs) q h = omega (arith, before_less rs q (omega (arith, questions-cons (is.Withdrawal f) rs)))
before_less (is.Question x ∷ rs) zero h = omega arith
before_less (is.Question x ∷ rs) (suc q) h = omega (arith, before_less rs q (omega (arith, questions-cons (is.Question x) rs)))

pub asks_admitted : (k : Kind) (rs : List Record) (q : ℕ) → q < question_count rs → first_suits k (drop (length (before q rs)) rs) ≡ true → AsksAdmitted k rs (length (before q rs))
asks_admitted k [] q h s = absurd (omega arith)
asks_admitted k (is.Fact f ∷ rs) q h s = asks_admitted k rs q (omega (arith, questions-cons (is.Fact f) rs)) s
asks_admitted k (is.Withdrawal f ∷ rs) q h s = asks_admitted k rs q (omega (arith, questions-cons (is.Withdrawal f) rs)) s
asks_admitted k (is.Question x ∷ rs) zero h s = s
asks_admitted k (is.Question x ∷ rs) (suc q) h s = asks_admitted k rs q (omega (arith, questions-cons (is.Question x) rs)) s

pub asked_admits : (k : Kind) (rs : List Record) → IsSomeAnd (question_within rs) (λ q. k.asks q ≡ true) → k.asks (first_question rs) ≡ true
asked_admits k [] h = elim h [ ]
asked_admits k (is.Fact _ ∷ rs) h = elim h [ ]
asked_admits k (is.Withdrawal _ ∷ rs) h = elim h [ ]
asked_admits k (is.Question x ∷ rs) h = h
