-- Lists that hold the same facts equally often: one comes from the other by keeping heads and swapping neighbours.
use Rattle.std.proofs.Common.{◌≡◌, ℕ, ◌+◌, ◌<◌, true, false, cond, ◌&&◌, List, [], ◌∷◌, ◌++◌, sym, refl, ap, subst, ⊎_elim, arith}
use Rattle.std.proofs.lemmas.List.Sums.{sum_by-cons, sum_by-append}
use Rattle.std.proofs.lemmas.Bool.{cases_Bool, cond-true, cond-false, eqb-true, eq-eqb, and_parts}
use Rattle.undoable.specs.declared.facts.Fact.{Fact}
use Rattle.undoable.specs.Kinds.{same, times, EquallyOften}

pub data Rearranged : List Fact → List Fact → Type 0 where
  none : Rearranged [] []
  keep : {x : Fact} {xs ys : List Fact} → Rearranged xs ys → Rearranged (x ∷ xs) (x ∷ ys)
  swap : {x y : Fact} {xs : List Fact} → Rearranged (x ∷ (y ∷ xs)) (y ∷ (x ∷ xs))
  then : {xs ys zs : List Fact} → Rearranged xs ys → Rearranged ys zs → Rearranged xs zs

pub same_is : (f g : Fact) → same f g ≡ true → f ≡ g
same_is f g e =
    let p = and_parts _ _ e in
    let a = eqb-true f.first g.first p.0 in
    let b = eqb-true f.second g.second p.1 in
    λ i. record { first = a i; second = b i }

pub same_self : (f : Fact) → same f f ≡ true
same_self f = (λ i. eq-eqb f.first f.first refl i && eq-eqb f.second f.second refl i)

times-cons : (f x : Fact) (xs : List Fact) → times f (x ∷ xs) ≡ cond (same f x) 1 0 + times f xs
times-cons f x xs = sum_by-cons (λ y. cond (same f y) 1 0) x xs

times-append : (f : Fact) (xs ys : List Fact) → times f (xs ++ ys) ≡ times f xs + times f ys
times-append f xs ys = sum_by-append (λ y. cond (same f y) 1 0) xs ys

unchanged : (xs : List Fact) → Rearranged xs xs
unchanged [] = none
unchanged (x ∷ xs) = keep (unchanged xs)

-- the first of a list moved to a place further on
move : (x : Fact) (left right : List Fact) → Rearranged (x ∷ (left ++ right)) (left ++ x ∷ right)
move x [] right = unchanged (x ∷ right)
move x (y ∷ left) right = then swap (keep (move x left right))

-- a place where a list holds a fact
record Found (x : Fact) (ys : List Fact) : Type 0 where
  left : List Fact
  right : List Fact
  there : ys ≡ left ++ x ∷ right

find : (x : Fact) (ys : List Fact) → 0 < times x ys → Found x ys
find x [] h = absurd (omega arith)
find x (y ∷ ys) h =
    ⊎_elim
    (λ (e : same x y ≡ true). record { left = []; right = ys; there = ap (λ z. z ∷ ys) (sym (same_is x y e)) })
    (λ (e : same x y ≡ false).
    let zero-here : ◌≡◌ {A = ℕ} (cond (same x y) 1 0) 0 = cond-false _ _ _ e in
    let f = find x ys (omega (arith, times-cons x y ys, zero-here)) in
    record { left = y ∷ f.left; right = f.right; there = ap (λ l. y ∷ l) f.there })
    (cases_Bool (same x y))

pub rearranged : (xs ys : List Fact) → EquallyOften xs ys → Rearranged xs ys
rearranged [] [] h = none
rearranged [] (y ∷ ys) h =
    let one : ◌≡◌ {A = ℕ} (cond (same y y) 1 0) 1 = cond-true _ _ _ (same_self y) in
    absurd (omega (arith, h y, times-cons y y ys, one))
rearranged (x ∷ xs) ys h =
    let one : ◌≡◌ {A = ℕ} (cond (same x x) 1 0) 1 = cond-true _ _ _ (same_self x) in
    let f = find x ys (omega (arith, h x, times-cons x x xs, one)) in
    let rest : EquallyOften xs (f.left ++ f.right) = λ g. omega (arith, h g, times-cons g x xs, ap (times g) f.there, times-append g f.left (x ∷ f.right), times-cons g x f.right, times-append g f.left f.right) in
    subst (Rearranged (x ∷ xs)) (sym f.there) (then (keep (rearranged xs (f.left ++ f.right) rest)) (move x f.left f.right))
