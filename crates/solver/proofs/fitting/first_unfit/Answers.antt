use Rattle.std.proofs.Common.{◌≡◌, ℕ, ◌+◌, not, cond, List, [], ◌∷◌, length, drop, Some, sym, refl, ap, ◌∙◌, add-one, rules, tests}
use Rattle.std.specs.List.{position_from}
use Rattle.std.proofs.lemmas.Iterator.Adapters.{position_from-zero}
use Rattle.std.proofs.lemmas.Iterator.Consumers.{YieldsList-from_first}
use Rattle.std.proofs.lemmas.Iterator.Search.{position_from_yields_List}
use Rattle.std.proofs.lemmas.List.{drop-drop}
use Rattle.undoable.specs.Kinds.{Kind}
use Rattle.book.specs.declared.records.Record.{Record}
use Rattle.book.specs.Listed.{listed}
use Rattle.book.specs.Spans.{first_from}
use Rattle.book.specs.View.{records_of}
use Rattle.solver.specs.Solving.{suits, first_suits}
use Rattle.solver.proofs.fitting.first_unfit.Goals as goal

-- the search by the definition, from record number i on
unsuited_from : (k : Kind) (rs : List Record) (i : ℕ) (xs : List Record) → drop i rs ≡ xs → position_from (λ r. not (suits k r)) i xs ≡ first_from (λ n. not (first_suits k (drop n rs))) (length xs) i
unsuited_from k rs i [] e = refl
unsuited_from k rs i (x ∷ xs) e =
    let here = sym (ap (first_suits k) e) in
    let next = sym (drop-drop 1 i rs) ∙ ap (drop 1) e in
    let rest = unsuited_from k rs (i + 1) xs next ∙ ap (first_from (λ n. not (first_suits k (drop n rs))) (length xs)) (add-one i) in
    λ j. cond (not (here j)) (Some i) (rest j)

pub returns : goal.returns
returns g c =
    let k = g.U.Undoable.kind c.args.structure.now in
    let rs = records_of c.args.book.now in
    position_from_yields_List (λ r. not (suits k r)) c.position.new.self _ _ c.position.ensures.ran (YieldsList-from_first (λ x. x) listed rs c.records.ensures.gives) (λ x b q k. search (rules, tests))
    ∙ position_from-zero (λ r. not (suits k r)) rs
    ∙ unsuited_from k rs 0 rs refl
