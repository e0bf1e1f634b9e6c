-- A span has few pieces: about two for each level of the tree.
use Rattle.std.proofs.Common.{◌≡◌, ℕ, zero, suc, ◌+◌, ◌-◌, ◌*◌, ◌^◌, ◌<◌, ◌≤◌, ◌⊎◌, List, [], ◌∷◌, ◌++◌, length, inl, inr, ⊎_elim, pow-suc, arith}
use Rattle.std.proofs.lemmas.List.{length-append}
use Rattle.std.proofs.lemmas.Bool.{cases_lt}
use Rattle.solver.specs.Tree.{Node, middle, PiecesFew}
use Rattle.solver.proofs.Cutting.{by_pieces}

module _ (s e : ℕ) where
  -- a node has at most 2 ^ h questions; the span is apart from it, holds it, ends in it, begins in it, or both
  record Few (m lo hi : ℕ) (xs : List Node) : Type 0 where
    apart : (e ≤ lo) ⊎ (hi ≤ s) → length xs ≡ 0
    inside : s ≤ lo → hi ≤ e → length xs ≤ 1
    ends : (h : ℕ) → hi - lo ≤ 2 ^ h → s ≤ lo → e < hi → length xs ≤ h
    begins : (h : ℕ) → hi - lo ≤ 2 ^ h → lo < s → hi ≤ e → length xs ≤ h
    within : (h : ℕ) → hi - lo ≤ 2 ^ h → lo < s → e < hi → length xs ≤ 2 * h

  few_none : (m lo hi : ℕ) → lo < hi → (e ≤ lo) ⊎ (hi ≤ s) → Few m lo hi []
  few_none m lo hi l c = record { apart = λ _. omega arith; inside = λ a b. omega arith; ends = λ h f a b. omega arith; begins = λ h f a b. omega arith; within = λ h f a b. omega arith }

  few_one : (m lo hi : ℕ) → lo < hi → s ≤ lo → hi ≤ e → Few m lo hi (record { lo = lo; hi = hi } ∷ [])
  few_one m lo hi l x y =
      record {
        apart = λ c. ⊎_elim (λ (a : e ≤ lo). absurd (omega arith)) (λ (b : hi ≤ s). absurd (omega arith)) c;
        inside = λ a b. omega arith;
        ends = λ h f a b. absurd (omega arith);
        begins = λ h f a b. absurd (omega arith);
        within = λ h f a b. absurd (omega arith);
      }

  module _ (m lo hi : ℕ) (two : 2 ≤ hi - lo) (off : (lo < s) ⊎ (e < hi)) (xs ys : List Node) (left : Few (m + 1) lo (middle lo hi) xs) (right : Few (m + 2 * (middle lo hi - lo)) (middle lo hi) hi ys) where
    abbrev mid : ℕ
    mid = middle lo hi

    abbrev many : ℕ
    many = length (xs ++ ys)

    ends : (h : ℕ) → hi - lo ≤ 2 ^ h → s ≤ lo → e < hi → many ≤ h
    ends zero f a b = absurd (omega arith)
    ends (suc h) f a b =
        let double = pow-suc 2 h in
        ⊎_elim
        (λ (x : e < mid). omega (arith, length-append xs ys, left.ends h (omega arith) a x, right.apart (inl (omega arith))))
        (λ (x : mid ≤ e). omega (arith, length-append xs ys, left.inside a x, right.ends h (omega arith) (omega arith) b))
        (cases_lt e mid)

    begins : (h : ℕ) → hi - lo ≤ 2 ^ h → lo < s → hi ≤ e → many ≤ h
    begins zero f a b = absurd (omega arith)
    begins (suc h) f a b =
        let double = pow-suc 2 h in
        ⊎_elim
        (λ (x : mid < s). omega (arith, length-append xs ys, left.apart (inr (omega arith)), right.begins h (omega arith) x b))
        (λ (x : s ≤ mid). omega (arith, length-append xs ys, left.begins h (omega arith) a (omega arith), right.inside x b))
        (cases_lt mid s)

    within : (h : ℕ) → hi - lo ≤ 2 ^ h → lo < s → e < hi → many ≤ 2 * h
    within zero f a b = absurd (omega arith)
    within (suc h) f a b =
        let double = pow-suc 2 h in
        ⊎_elim
        (λ (x : e < mid). omega (arith, length-append xs ys, left.within h (omega arith) a x, right.apart (inl (omega arith))))
        (λ (x : mid ≤ e).
        ⊎_elim
        (λ (y : mid < s). omega (arith, length-append xs ys, left.apart (inr (omega arith)), right.within h (omega arith) y b))
        (λ (y : s ≤ mid). omega (arith, length-append xs ys, left.begins h (omega arith) a x, right.ends h (omega arith) y b))
        (cases_lt mid s))
        (cases_lt e mid)

    few_both : Few m lo hi (xs ++ ys)
    few_both =
        record {
          apart = λ c.
              omega (
                arith,
                length-append xs ys,
                left.apart (⊎_elim (λ (a : e ≤ lo). inl a) (λ (b : hi ≤ s). inr (omega arith)) c),
                right.apart (⊎_elim (λ (a : e ≤ lo). inl (omega arith)) (λ (b : hi ≤ s). inr b) c),
              );
          inside = λ a b. ⊎_elim (λ (x : lo < s). absurd (omega arith)) (λ (x : e < hi). absurd (omega arith)) off;
          ends = ends;
          begins = begins;
          within = within;
        }

pub pieces_few : PiecesFew
pieces_few t zero s e two f = absurd (omega arith)
pieces_few t (suc h) s e two f =
    let few = by_pieces s e (Few s e) (few_none s e) (few_one s e) (few_both s e) t (omega arith) in
    ⊎_elim
    (λ (a : 0 < s). ⊎_elim (λ (b : e < t). few.within (suc h) (omega arith) a b) (λ (b : t ≤ e). omega (arith, few.begins (suc h) (omega arith) a b)) (cases_lt e t))
    (λ (a : s ≤ 0). ⊎_elim (λ (b : e < t). omega (arith, few.ends (suc h) (omega arith) a b)) (λ (b : t ≤ e). omega (arith, few.inside a b)) (cases_lt e t))
    (cases_lt 0 s)
