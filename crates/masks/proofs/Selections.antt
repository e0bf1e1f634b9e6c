-- The rule is about selections: it is 1 exactly if some selection of the entries has the mask as its exclusive or.
use Rattle.std.proofs.Common.{◌≡◌, ℕ, suc, Bool, true, false, cond, List, [], ◌∷◌, length, sym, refl, ap, ◌∙◌, ⊎_elim, arith}
use lib.Bits.{bit_xor, xor_comm}
use Rattle.std.proofs.lemmas.Bool.{cond-true, eqb-true, eq-eqb, or_cases, or_left, or_right}
use Rattle.undoable.specs.declared.facts.Fact.{Fact}
use Rattle.masks.specs.Rule.{mask_of, asked_of, chosen, is_sum, SumOf, Answers, SumsOfSelections, ZeroIsSum}
use Rattle.masks.proofs.Highest.{xor_again}

has : (fs : List Fact) (m : ℕ) → is_sum fs m ≡ true → SumOf fs m
has [] m e = ([], refl, sym (eqb-true m 0 e))
has (f ∷ fs) m e =
    ⊎_elim
    (λ (h : is_sum fs m ≡ true). let t = has fs m h in (false ∷ t.0, ap suc t.1, t.2))
    (λ (h : is_sum fs (bit_xor m (mask_of f)) ≡ true).
    let t = has fs (bit_xor m (mask_of f)) h in
    (true ∷ t.0, ap suc t.1, ap (bit_xor (mask_of f)) (t.2 ∙ xor_comm m (mask_of f)) ∙ xor_again (mask_of f) m))
    (or_cases _ _ e)

is : (fs : List Fact) (bs : List Bool) (m : ℕ) → length bs ≡ length fs → chosen fs bs ≡ m → is_sum fs m ≡ true
is [] bs m l e = eq-eqb m 0 (sym e)
is (f ∷ fs) [] m l e = absurd (omega arith)
is (f ∷ fs) (true ∷ bs) m l e =
    let rest : chosen fs bs ≡ bit_xor m (mask_of f) = sym (xor_again (mask_of f) (chosen fs bs)) ∙ ap (bit_xor (mask_of f)) e ∙ xor_comm (mask_of f) m in
    or_right _ _ (is fs bs (bit_xor m (mask_of f)) (omega arith) rest)
is (f ∷ fs) (false ∷ bs) m l e = or_left _ _ (is fs bs m (omega arith) e)

-- the answer by its test
answers : (fs : List Fact) (m : ℕ) → Answers fs m (cond (is_sum fs m) 1 0)
answers fs m = record {
  one_has = λ o. has fs m (one_is (is_sum fs m) o);
  has_one = λ t. is_one (is_sum fs m) (is fs t.0 m t.1 t.2);
  zero_lacks = λ z t. omega (arith, z, is_one (is_sum fs m) (is fs t.0 m t.1 t.2));
  lacks_zero = λ n. none_is (is_sum fs m) (λ e. n (has fs m e));
}
  where
    one_is : (t : Bool) → ◌≡◌ {A = ℕ} (cond t 1 0) 1 → t ≡ true
    one_is t e = grind arith

    is_one : (t : Bool) → t ≡ true → ◌≡◌ {A = ℕ} (cond t 1 0) 1
    is_one t e = grind arith

    none_is : (t : Bool) → (t ≡ true → ⊥) → ◌≡◌ {A = ℕ} (cond t 1 0) 0
    none_is t n = grind arith

pub sums_of_selections : SumsOfSelections
sums_of_selections c fs q = answers fs (asked_of q)

zero_sum : (fs : List Fact) → is_sum fs 0 ≡ true
zero_sum [] = refl
zero_sum (f ∷ fs) = or_left _ _ (zero_sum fs)

pub zero_is_sum : ZeroIsSum
zero_is_sum c fs q e = cond-true _ _ _ (ap (is_sum fs) e ∙ zero_sum fs)
