-- As many numbers as pieces: the recursion of the placing selects what the definition does.
use Rattle.std.proofs.Common.{◌≡◌, ℕ, zero, suc, ◌<◌, ◌≤◌, length, ap, arith}
use Rattle.std.proofs.lemmas.List.{length-append}
use Rattle.solver.specs.Folds.{numbers_of}
use Rattle.solver.specs.Tree.{pieces_of}
use Rattle.solver.proofs.Cutting.{by_pieces}
use Rattle.solver.proofs.Numbering.{numbers_apart, numbers_whole, length_parts, numbers_few}

pub numbers_pieces : (t s e : ℕ) → 0 < t → length (numbers_of (s, e) 0 0 t) ≡ length (pieces_of t (s, e))
numbers_pieces t s e =
    by_pieces s e (λ m lo hi xs. length (numbers_of (s, e) m lo hi) ≡ length xs)
    (λ m lo hi l c. ap length (numbers_apart s e m lo hi l c))
    (λ m lo hi l a b. ap length (numbers_whole s e m lo hi l a b))
    (λ m lo hi two off xs ys left right. omega (arith, length_parts s e m lo hi off two, length-append xs ys, left, right))
    t

-- a span has at most as many pieces as there are questions
pub pieces_at_most : (t s e : ℕ) → length (pieces_of t (s, e)) ≤ t
pieces_at_most zero s e = omega arith
pieces_at_most (suc t) s e = omega (arith, numbers_pieces (suc t) s e (omega arith), numbers_few s e 0 0 (suc t) (omega arith))
