-- The saved rows when a fact comes on top, and when the newest goes.
use Rattle.std.proofs.Common.{◌≡◌, ◌≢◌, ℕ, suc, ◌-◌, ◌<◌, ◌≤◌, List, [], ◌∷◌, length, get_or, set, drop, subst, sym, ap, ◌∙◌, ⊎_elim, arith}
use Rattle.std.proofs.lemmas.List.{get_or-set_same, get_or-set_other}
use Rattle.std.proofs.lemmas.Bool.{cases_lt}
use Rattle.undoable.specs.declared.facts.Fact.{Fact}
use Rattle.prizes.specs.Saved.{row_of, AreSaved}

-- the oldest facts are the same with one fact more
under : (f : Fact) (fs : List Fact) (i : ℕ) → i ≤ length fs → drop (length (f ∷ fs) - i) (f ∷ fs) ≡ drop (length fs - i) fs
under f fs i h = let e : length (f ∷ fs) - i ≡ suc (length fs - i) = omega arith in ap (λ n. drop n (f ∷ fs)) e

last : (f : Fact) (fs : List Fact) (n : ℕ) → n ≡ length fs → fs ≡ drop (length (f ∷ fs) - n) (f ∷ fs)
last f fs n e = let one : length (f ∷ fs) - n ≡ 1 = omega arith in ap (λ k. drop k (f ∷ fs)) (sym one)

pub saved_more : (f : Fact) (fs : List Fact) (rows : List (List ℕ)) (row : List ℕ) (n : ℕ) → n ≡ length fs → n < length rows → row ≡ row_of fs → AreSaved fs rows → AreSaved (f ∷ fs) (set rows n row)
saved_more f fs rows row n e h r s i l =
    ⊎_elim
    (λ (k : i < n). let ne : i ≢ n = omega arith in get_or-set_other rows n i row [] ne ∙ s i (omega arith) ∙ ap row_of (sym (under f fs i (omega arith))))
    (λ (k : n ≤ i). let same : i ≡ n = omega arith in subst (λ j. get_or (set rows n row) j [] ≡ row_of (drop (length (f ∷ fs) - j) (f ∷ fs))) (sym same) (get_or-set_same rows n row [] h ∙ r ∙ ap row_of (last f fs n e)))
    (cases_lt i n)

pub saved_less : (f : Fact) (fs : List Fact) (rows : List (List ℕ)) → AreSaved (f ∷ fs) rows → AreSaved fs rows
saved_less f fs rows s i h = s i (omega arith) ∙ ap row_of (under f fs i (omega arith))

pub saved_last : (f : Fact) (fs : List Fact) (rows : List (List ℕ)) → AreSaved (f ∷ fs) rows → get_or rows (length fs) [] ≡ row_of fs
saved_last f fs rows s = let z : length fs - length fs ≡ 0 = omega arith in s (length fs) (omega arith) ∙ ap row_of (under f fs (length fs) (omega arith)) ∙ ap (λ n. row_of (drop n fs)) z
