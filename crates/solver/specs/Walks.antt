-- The walk through the tree, for private contracts: the facts and questions of the records, by their numbers.
use Rattle.std.specs.Prelude.{◌≡◌, true, Option, None, IsSomeAnd, ℕ, List, [], ◌∷◌, map, drop}
use Rattle.undoable.specs.declared.facts.Fact.{Fact}
use Rattle.undoable.specs.declared.facts.Question.{Question}
use Rattle.undoable.specs.Kinds.{Kind}
use Rattle.book.specs.declared.records.Record.{Record}
use Rattle.book.specs.declared.records.Record.TheVariants as is
use Rattle.book.specs.Records.{question_in}
use Rattle.book.specs.Spans.{fact_within}

-- the fact and the question of a record; (0, 0) stands for none
abbrev pub fact_of : Record → Fact
fact_of (is.Fact f) = f
fact_of (is.Withdrawal f) = record { first = 0; second = 0 }
fact_of (is.Question q) = record { first = 0; second = 0 }

abbrev pub question_of : Record → Question
question_of (is.Fact f) = record { first = 0; second = 0 }
question_of (is.Withdrawal f) = record { first = 0; second = 0 }
question_of (is.Question q) = q

abbrev pub first_fact : List Record → Fact
first_fact [] = record { first = 0; second = 0 }
first_fact (r ∷ rs) = fact_of r

abbrev pub first_question : List Record → Question
first_question [] = record { first = 0; second = 0 }
first_question (r ∷ rs) = question_of r

-- the question of the first record, if it is one
abbrev pub question_within : List Record → Option Question
question_within [] = None
question_within (r ∷ rs) = question_in r

-- record number n enters a fact that is admitted, and it asks a question that is admitted
abbrev pub EntersAdmitted : Kind → List Record → ℕ → Type 0
EntersAdmitted k rs n = IsSomeAnd (fact_within (drop n rs)) (λ f. k.admits f ≡ true)

abbrev pub AsksAdmitted : Kind → List Record → ℕ → Type 0
AsksAdmitted k rs n = IsSomeAnd (question_within (drop n rs)) (λ q. k.asks q ≡ true)

abbrev pub numbered_fact : List Record → ℕ → Fact
numbered_fact rs n = first_fact (drop n rs)

abbrev pub numbered_question : List Record → ℕ → Question
numbered_question rs n = first_question (drop n rs)

-- the facts at node number m, where the lists xs have their record numbers
abbrev pub facts_of : List Record → (ℕ → List ℕ) → ℕ → List Fact
facts_of rs xs m = map (numbered_fact rs) (xs m)
