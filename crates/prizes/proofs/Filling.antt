-- An array made by calls of a function at each index.
use Rattle.std.proofs.Common.{◌≡◌, ℕ, zero, suc, ◌+◌, ◌<◌, List, get_or, map, ◌∙◌, subst, add-zero, zero-add, arith}
use Rattle.std.specs.Array.{IsFromFnResultFrom, IsFromFnResult}
use Rattle.std.specs.Iterator.{ActsAs}
use Rattle.std.specs.List.{range_with_len}
use Rattle.std.proofs.lemmas.List.FromFn.{fill_by_all}
use denote.Param.Members.{Mut}

module _ {F : Type 0} (g : Mut F (ℕ × Unit {0}) ℕ) (h : ℕ → ℕ) (f : F) (acts : ActsAs g f h) where
  each_entry : (n i k : ℕ) (ys : List ℕ) → IsFromFnResultFrom g f ys i n → k < n → get_or ys (i + k) 0 ≡ h (i + k)
  each_entry zero i k ys r l = absurd (omega arith)
  each_entry (suc n) i zero ys r l = rw add-zero (r.2.1 0 ∙ (acts i r.1 r.0 r.3).1)
  each_entry (suc n) i (suc k) ys r l =
      let e : i + suc k ≡ i + 1 + k = omega arith in
      rw e (each_entry n (i + 1) k ys (subst (λ (q : F). IsFromFnResultFrom g q ys (i + 1) n) (acts i r.1 r.0 r.3).0 r.4) (omega arith))

  pub from_fn_is : (n : ℕ) (ys : List ℕ) → IsFromFnResult g f ys n → ys ≡ map h (range_with_len 0 n)
  from_fn_is n ys r = fill_by_all h ys n 0 r.long (λ k l. rw zero-add at (each_entry n 0 k ys r.each l))
