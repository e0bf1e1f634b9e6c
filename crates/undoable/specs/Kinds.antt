-- The meaning of an undoable structure, as far as it never changes, and the law that every kind owes.
use Rattle.std.specs.Prelude.{◌≡◌, ℕ, Bool, true, ◌&&◌, List, [], ◌∷◌, count_by, ◌==◌}
use Rattle.std.specs.List.{AllByRecursion}
use Rattle.undoable.specs.declared.facts.Fact.{Fact}
use Rattle.undoable.specs.declared.facts.Question.{Question}

-- the greatest height of the stack, the facts and the questions that are admitted, and the answer to a question for a list of facts
pub record Kind : Type 0 where
  pub capacity : ℕ
  pub admits : Fact → Bool
  pub asks : Question → Bool
  pub rule : List Fact → Question → ℕ

-- two facts are equal if both fields are
abbrev pub same : Fact → Fact → Bool
same f g = f.first == g.first && f.second == g.second

-- how often a list holds a fact
abbrev pub times : Fact → List Fact → ℕ
times f xs = count_by (same f) xs

-- two lists hold the same facts equally often
abbrev pub EquallyOften : List Fact → List Fact → Type 0
EquallyOften xs ys = (f : Fact) → times f xs ≡ times f ys

-- every fact of a list is admitted
abbrev pub Admitted : Kind → List Fact → Type 0
Admitted k xs = AllByRecursion (λ f. k.admits f ≡ true) xs

-- the same as a test, for a structure's invariant
abbrev pub admits_all : (Fact → Bool) → List Fact → Bool
admits_all p [] = true
admits_all p (f ∷ fs) = p f && admits_all p fs

-- the law: the order of the facts does not matter
abbrev pub OrderBlind : Kind → Type 0
OrderBlind k = (xs ys : List Fact) → Admitted k xs → EquallyOften xs ys → (q : Question) → k.asks q ≡ true → k.rule xs q ≡ k.rule ys q
