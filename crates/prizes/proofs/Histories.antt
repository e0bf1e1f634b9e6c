-- A history whose push or pop is refused, and one whose push or pop is accepted.
use Rattle.std.proofs.Common.{◌≡◌, ℕ, ◌<◌, ◌≤◌, List, [], ◌∷◌, length, Ok, Err, refl, nat_lt, true, false, ⊎_elim}
use Rattle.std.proofs.lemmas.Bool.{cases_Bool, cases_lt, lt-ltb, le-ltb, cond-true, cond-false}
use Rattle.undoable.specs.declared.refusals.PopRefusal.{PopRefusal}
use Rattle.undoable.specs.declared.refusals.PushRefusal.{PushRefusal}
use Rattle.undoable.specs.declared.refusals.PushRefusal.TheVariants.{Full}
use Rattle.undoable.specs.Stacks.{put_result, put_after, take_result, take_after}

module _ {X : Type 0} where
  pub put_refused : (n : ℕ) (xs : List X) (x : X) (e : PushRefusal) → put_result n xs ≡ Err e → put_after n xs x ≡ xs
  put_refused n xs x e h =
      ⊎_elim
      (λ (t : nat_lt (length xs) n ≡ true). let r : put_result n xs ≡ Ok tt = cond-true _ _ _ t in cc)
      (λ (t : nat_lt (length xs) n ≡ false). cond-false _ _ _ t)
      (cases_Bool (nat_lt (length xs) n))

  pub put_room : (n : ℕ) (xs : List X) → put_result n xs ≡ Ok tt → length xs < n
  put_room n xs h =
      ⊎_elim
      (λ (l : length xs < n). l)
      (λ (l : n ≤ length xs). let r : put_result n xs ≡ Err Full = cond-false _ _ _ (le-ltb (length xs) n l) in cc)
      (cases_lt (length xs) n)

  pub put_accepted : (n : ℕ) (xs : List X) (x : X) → put_result n xs ≡ Ok tt → put_after n xs x ≡ x ∷ xs
  put_accepted n xs x h = cond-true _ _ _ (lt-ltb (length xs) n (put_room n xs h))

  pub take_refused : (xs : List X) (e : PopRefusal) → take_result xs ≡ Err e → xs ≡ []
  take_refused [] e h = refl
  take_refused (x ∷ xs) e h = cc

  pub take_accepted : (xs : List X) (x : X) → take_result xs ≡ Ok x → xs ≡ x ∷ take_after xs
  take_accepted [] x h = cc
  take_accepted (y ∷ xs) x h = cc
