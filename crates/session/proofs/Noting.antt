-- The marks that are held at their numbers, as the model notes them: one more, one looked up and given back, and their heights.
use Rattle.std.proofs.Common.{◌≡◌, ℕ, zero, suc, ◌+◌, ◌<◌, ◌≤◌, cond, List, [], ◌∷◌, ◌++◌, map, length, get_or, set, Some, None, Option, sym, refl, ap, ◌∙◌, arith, eq-eqb, ne_eqb}
use Rattle.undoable.specs.declared.marks.Mark.{Mark}
use Rattle.session.specs.Held.{noted_from, height_in}
use Rattle.session.specs.Model.{Noted, height_of, given_back}

abbrev pub noted : ℕ → Mark → Noted
noted n m = record { number = n; height = m.height }

-- what looking for mark k among the noted ms comes to
abbrev Gives : ℕ → List Noted → Option ℕ → List Noted → Type 0
Gives k ms h rest = (height_of k ms ≡ h) × (given_back k ms ≡ rest)

-- past a mark of another number
passed : (n k : ℕ) (x : Mark) (ms rest : List Noted) (h : Option ℕ) → (n ≡ k → ⊥) → Gives k ms h rest → Gives k (noted n x ∷ ms) h (noted n x ∷ rest)
passed n k x ms rest h other g = (
  ap (λ b. cond b (Some x.height) (height_of k ms)) (ne_eqb n k other) ∙ g.0,
  ap (λ b. cond b ms (noted n x ∷ given_back k ms)) (ne_eqb n k other) ∙ ap (λ l. noted n x ∷ l) g.1,
)

-- no mark has a number before the first or behind the last
before : (n k : ℕ) (xs : List (Option Mark)) → k < n → Gives k (noted_from n xs) None (noted_from n xs)
before n k [] p = (refl, refl)
before n k (None ∷ xs) p = before (suc n) k xs (omega arith)
before n k (Some x ∷ xs) p = passed n k x _ _ _ (λ e. omega arith) (before (suc n) k xs (omega arith))

behind : (n k : ℕ) (xs : List (Option Mark)) → n + length xs ≤ k → Gives k (noted_from n xs) None (noted_from n xs)
behind n k [] p = (refl, refl)
behind n k (None ∷ xs) p = behind (suc n) k xs (omega arith)
behind n k (Some x ∷ xs) p = passed n k x _ _ _ (λ e. omega arith) (behind (suc n) k xs (omega arith))

-- a number between has what is held at its place, which is empty then
at_place : (n k i : ℕ) (xs : List (Option Mark)) (d : Option Mark) → k ≡ n + i → i < length xs → Gives k (noted_from n xs) (height_in (get_or xs i d)) (noted_from n (set xs i None))
at_place n k i [] d e p = absurd (omega arith)
at_place n k zero (None ∷ xs) d e p = before (suc n) k xs (omega arith)
at_place n k zero (Some x ∷ xs) d e p =
    let same : n ≡ k = omega arith in (
      ap (λ b. cond b (Some x.height) (height_of k (noted_from (suc n) xs))) (eq-eqb n k same),
      ap (λ b. cond b (noted_from (suc n) xs) (noted n x ∷ given_back k (noted_from (suc n) xs))) (eq-eqb n k same),
    )
at_place n k (suc i) (None ∷ xs) d e p = at_place (suc n) k i xs d (omega arith) (omega arith)
at_place n k (suc i) (Some x ∷ xs) d e p = passed n k x _ _ _ (λ f. omega arith) (at_place (suc n) k i xs d (omega arith) (omega arith))

last_noted : (n k : ℕ) (xs : List (Option Mark)) (m : Mark) → k ≡ n + length xs → noted_from n (xs ++ Some m ∷ []) ≡ noted_from n xs ++ noted k m ∷ []
last_noted n k [] m e = let same : n ≡ k = omega arith in ap (λ j. noted j m ∷ []) same
last_noted n k (None ∷ xs) m e = last_noted (suc n) k xs m (omega arith)
last_noted n k (Some x ∷ xs) m e = ap (λ l. noted n x ∷ l) (last_noted (suc n) k xs m (omega arith))

-- the heights do not depend on the numbers
abbrev pub heights_of : List (Option Mark) → List ℕ
heights_of [] = []
heights_of (None ∷ xs) = heights_of xs
heights_of (Some x ∷ xs) = x.height ∷ heights_of xs

heights_noted : (n : ℕ) (xs : List (Option Mark)) → map (λ m. m.height) (noted_from n xs) ≡ heights_of xs
heights_noted n [] = refl
heights_noted n (None ∷ xs) = heights_noted (suc n) xs
heights_noted n (Some x ∷ xs) = ap (λ l. x.height ∷ l) (heights_noted (suc n) xs)

-- the same for all the marks, numbered from 0
pub missed_height : (k : ℕ) (xs : List (Option Mark)) → length xs ≤ k → height_of k (noted_from 0 xs) ≡ None
missed_height k xs p = (behind 0 k xs (omega arith)).0

pub missed_rest : (k : ℕ) (xs : List (Option Mark)) → length xs ≤ k → given_back k (noted_from 0 xs) ≡ noted_from 0 xs
missed_rest k xs p = (behind 0 k xs (omega arith)).1

pub found_height : (k : ℕ) (xs : List (Option Mark)) (o : Option Mark) → k < length xs → o ≡ get_or xs k o → height_of k (noted_from 0 xs) ≡ height_in o
found_height k xs o p e = (at_place 0 k k xs o (omega arith) p).0 ∙ ap height_in (sym e)

pub found_rest : (k : ℕ) (xs : List (Option Mark)) → k < length xs → given_back k (noted_from 0 xs) ≡ noted_from 0 (set xs k None)
found_rest k xs p = (at_place 0 k k xs None (omega arith) p).1

pub taken_last : (xs : List (Option Mark)) (m : Mark) → noted_from 0 (xs ++ Some m ∷ []) ≡ noted_from 0 xs ++ noted (length xs) m ∷ []
taken_last xs m = last_noted 0 (length xs) xs m (omega arith)

pub all_heights : (xs : List (Option Mark)) → heights_of xs ≡ map (λ m. m.height) (noted_from 0 xs)
all_heights xs = sym (heights_noted 0 xs)

pub ruleset noting = (missed_height, missed_rest, found_height, found_rest, taken_last)
