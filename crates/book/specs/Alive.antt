-- Which facts are alive after a list of records, each with the number of its record, in the order of entry.
-- A withdrawal ends one fact: the earliest entered of the equal facts still alive.
use Rattle.std.specs.Prelude.{ℕ, suc, cond, List, [], ◌∷◌, ◌++◌, count_by}
use Rattle.undoable.specs.declared.facts.Fact.{Fact}
use Rattle.book.specs.declared.records.Record.{Record}
use Rattle.book.specs.declared.records.Record.TheVariants as is
use Rattle.undoable.specs.Kinds.{same}

-- a fact and the number of the record that entered it
pub record Entry : Type 0 where
  pub number : ℕ
  pub fact : Fact

-- the entries that are left once the first of those equal to f is ended
abbrev pub without : Fact → List Entry → List Entry
without f [] = []
without f (x ∷ xs) = cond (same f x.fact) xs (x ∷ without f xs)

-- the entries alive after the records, of which the first has number n, if xs are alive before them
abbrev pub alive_from : ℕ → List Entry → List Record → List Entry
alive_from n xs [] = xs
alive_from n xs (is.Fact f ∷ rs) = alive_from (suc n) (xs ++ record { number = n; fact = f } ∷ []) rs
alive_from n xs (is.Withdrawal f ∷ rs) = alive_from (suc n) (without f xs) rs
alive_from n xs (is.Question q ∷ rs) = alive_from (suc n) xs rs

abbrev pub alive : List Record → List Entry
alive rs = alive_from 0 [] rs

-- how many of the entries are equal to f
abbrev pub equal_to : Fact → List Entry → ℕ
equal_to f xs = count_by (λ x. same f x.fact) xs
