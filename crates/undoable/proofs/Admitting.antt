-- A list that passes the test of admission has only admitted facts.
use Rattle.std.proofs.Common.{◌≡◌, true, List, [], ◌∷◌}
use Rattle.std.proofs.lemmas.Bool.{and_parts}
use Rattle.undoable.specs.declared.facts.Fact.{Fact}
use Rattle.undoable.specs.Kinds.{Kind, Admitted, admits_all}

pub admitted_all : (k : Kind) (xs : List Fact) → admits_all k.admits xs ≡ true → Admitted k xs
admitted_all k [] h = tt
admitted_all k (x ∷ xs) h = let p = and_parts _ _ h in (p.0, admitted_all k xs p.1)
