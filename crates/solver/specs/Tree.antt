-- The time tree over t questions, and the pieces of a span: the largest nodes inside it.
use Rattle.std.specs.Prelude.{◌≡◌, ℕ, zero, suc, ◌+◌, ◌-◌, ◌*◌, ◌/◌, ◌^◌, ◌<◌, ◌≤◌, Bool, false, cond, not, ◌&&◌, List, [], ◌∷◌, ◌++◌, map, length, Some, None, count_by, filter, Option, nat_le, nat_lt}

-- the questions from lo on and before hi
pub record Node : Type 0 where
  pub lo : ℕ
  pub hi : ℕ

-- a node of the tree and its parent, which the root lacks
pub record Placed : Type 0 where
  pub node : Node
  pub parent : Option Node

-- the middle of a node: the end of its first child and the start of its second
abbrev pub middle : ℕ → ℕ → ℕ
middle lo hi = lo + (hi - lo) / 2

-- the node (lo, hi) and those below it, to depth n; a node of two questions and more has two children
abbrev pub nodes_from : ℕ → Option Node → ℕ → ℕ → List Placed
nodes_from zero p lo hi = []
nodes_from (suc n) p lo hi =
    record { node = record { lo = lo; hi = hi }; parent = p } ∷ cond (nat_le 2 (hi - lo)) (nodes_from n (Some (record { lo = lo; hi = hi })) lo (middle lo hi) ++ nodes_from n (Some (record { lo = lo; hi = hi })) (middle lo hi) hi) []

-- the whole tree; no way down is longer than t nodes
abbrev pub nodes : ℕ → List Placed
nodes t = cond (nat_lt 0 t) (nodes_from t None 0 t) []

-- a node lies inside a span (s, e)
abbrev pub inside : ℕ × ℕ → Node → Bool
inside x v = nat_le x.0 v.lo && nat_le v.hi x.1

abbrev pub parent_inside : ℕ × ℕ → Option Node → Bool
parent_inside x None = false
parent_inside x (Some v) = inside x v

-- a piece is inside the span, and its parent is not
abbrev pub is_piece : ℕ × ℕ → Placed → Bool
is_piece x v = inside x v.node && not (parent_inside x v.parent)

-- the pieces of a span among the node (lo, hi), with parent p, and those below it, to depth n
abbrev pub pieces_below : ℕ × ℕ → ℕ → Option Node → ℕ → ℕ → List Node
pieces_below x n p lo hi = map (λ v. v.node) (filter (is_piece x) (nodes_from n p lo hi))

-- the pieces of a span in the tree over t questions
abbrev pub pieces_of : ℕ → ℕ × ℕ → List Node
pieces_of t x = map (λ v. v.node) (filter (is_piece x) (nodes t))

-- a question lies in a node
abbrev pub covers : ℕ → Node → Bool
covers q v = nat_le v.lo q && nat_lt q v.hi

-- every question of a span lies in exactly one of its pieces, and no other question in any
abbrev pub PiecesPartition : Type 0
PiecesPartition = (t s e q : ℕ) → q < t → count_by (covers q) (pieces_of t (s, e)) ≡ cond (nat_le s q && nat_lt q e) 1 0

-- a span has at most 2 × h pieces if there are two questions at least and at most 2 ^ h; the least such h is the logarithm
-- of their number, rounded up
abbrev pub PiecesFew : Type 0
PiecesFew = (t h s e : ℕ) → 2 ≤ t → t ≤ 2 ^ h → length (pieces_of t (s, e)) ≤ 2 * h

-- numbers worked by hand, for the example book of six questions with the spans (0, 3), (1, 5), (2, 6): the pieces of the second,
-- and how many they are together
abbrev pub WorkedPieces : Type 0
WorkedPieces =
    (pieces_of 6 (1, 5) ≡ record { lo = 1; hi = 3 } ∷ (record { lo = 3; hi = 4 } ∷ (record { lo = 4; hi = 5 } ∷ [])))
    × (length (pieces_of 6 (0, 3)) + length (pieces_of 6 (1, 5)) + length (pieces_of 6 (2, 6)) ≡ 6)
