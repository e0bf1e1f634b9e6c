-- Where a load is refused: the records before the fault, the fault, and no longer front that loads.
use Rattle.std.proofs.Common.{◌≡◌, ℕ, zero, suc, ◌+◌, ◌*◌, ◌<◌, ◌≤◌, true, false, List, [], ◌∷◌, ◌++◌, length, take, drop, is_ok, Ok, Err, Result, sym, refl, ap, ◌∙◌, subst, inl, inr, ⊎_elim, append_assoc, append-nil, arith}
use Rattle.std.proofs.lemmas.Bool.{cases_Bool, cond-true, cond-false, and_from}
use Rattle.book.specs.declared.records.Record.{Record}
use Rattle.book.specs.declared.refusals.LoadError.{LoadError}
use Rattle.book.specs.declared.refusals.LoadError.TheVariants as from
use Rattle.book.specs.declared.refusals.Refusal.{Refusal}
use Rattle.book.specs.declared.refusals.WordFault.TheVariants.{WrongKind, HeadAtEnd}
use Rattle.book.specs.Loads.{loads_from, and_then, bad_word}
use Rattle.book.specs.Rules.{judge, sound_after}
use Rattle.book.specs.Theorems.{Faulty, LoadRefuses}
use Rattle.book.specs.Words.{is_head, is_second, record_in, writes}
use Rattle.book.proofs.Accepting.{words-record_in}

-- the same from place p on, after the records rs
record Stopped (p : ℕ) (rs : List Record) (ws : List ℕ) (e : LoadError) : Type 0 where
  more : List Record
  lawful : sound_after rs more ≡ true
  front : take (2 * length more) ws ≡ writes more
  within : 2 * length more < length ws
  fault : Faulty (rs ++ more) (p + 2 * length more) (drop (2 * length more) ws) e
  longest : (m : ℕ) → 2 * length more < m → m ≤ length ws → is_ok (loads_from p rs (take m ws)) ≡ false

-- the fault is in the first record
at_once : (p : ℕ) (rs : List Record) (ws : List ℕ) (e : LoadError) → 0 < length ws → Faulty rs p ws e → ((m : ℕ) → 0 < m → m ≤ length ws → is_ok (loads_from p rs (take m ws)) ≡ false) → Stopped p rs ws e
at_once p rs ws e some f l = record {
  more = [];
  lawful = refl;
  front = refl;
  within = some;
  fault = let z : p + 0 ≡ p = omega arith in subst (λ n. Faulty (rs ++ []) n ws e) (sym z) (subst (λ qs. Faulty qs p ws e) (sym (append-nil rs)) f);
  longest = l;
}

-- the fault is behind the first record
further : (p : ℕ) (rs : List Record) (h s : ℕ) (ws : List ℕ) (e : LoadError) → is_head h ≡ true → is_second s ≡ true → judge rs (record_in h s) ≡ Ok tt → Stopped (p + 2) (rs ++ record_in h s ∷ []) ws e → Stopped p rs (h ∷ (s ∷ ws)) e
further p rs h s ws e i j k t =
    let r = record_in h s in
    let n = length t.more in
    let w = words-record_in h s i j in
    let twice : 2 * suc n ≡ suc (suc (2 * n)) = omega arith in
    let place : p + 2 + 2 * n ≡ p + 2 * suc n = omega arith in
    record {
      more = r ∷ t.more;
      lawful = and_from (is_ok (judge rs r)) (sound_after (rs ++ r ∷ []) t.more) (ap is_ok k) t.lawful;
      front = ap (λ x. take x (h ∷ (s ∷ ws))) twice ∙ (λ d. sym w.0 d ∷ (sym w.1 d ∷ t.front d));
      within = omega (arith, t.within);
      fault = subst (λ x. Faulty (rs ++ r ∷ t.more) (p + 2 * suc n) (drop x (h ∷ (s ∷ ws))) e) (sym twice) (subst (λ x. Faulty (rs ++ r ∷ t.more) x (drop (2 * n) ws) e) place (subst (λ qs. Faulty qs (p + 2 + 2 * n) (drop (2 * n) ws) e) (append_assoc rs (r ∷ []) t.more) t.fault));
      longest = longer;
    }
  where
    longer : (m : ℕ) → 2 * suc (length t.more) < m → m ≤ suc (suc (length ws)) → is_ok (loads_from p rs (take m (h ∷ (s ∷ ws)))) ≡ false
    longer zero a b = absurd (omega arith)
    longer (suc zero) a b = absurd (omega arith)
    longer (suc (suc m)) a b =
        let c : 2 * length t.more < m = omega arith in
        let d : m ≤ length ws = omega arith in
        ap is_ok (cond-true (is_head h) _ _ i ∙ cond-true (is_second s) _ _ j ∙ ap (λ x. and_then x p (loads_from (p + 2) (rs ++ record_in h s ∷ []) (take m ws))) k)
        ∙ t.longest m c d

-- one word is never a record
alone : (p : ℕ) (rs : List Record) (h : ℕ) → is_ok (loads_from p rs (h ∷ [])) ≡ false
alone p rs h = ⊎_elim (λ i. ap is_ok (cond-true (is_head h) _ _ i)) (λ i. ap is_ok (cond-false (is_head h) _ _ i)) (cases_Bool (is_head h))

module _ (p : ℕ) (rs : List Record) (h : ℕ) where
  module _ (i : is_head h ≡ false) where
    bad_head : (ws : List ℕ) → loads_from p rs (h ∷ ws) ≡ bad_word WrongKind p
    bad_head [] = cond-false (is_head h) _ _ i
    bad_head (s ∷ ws) = cond-false (is_head h) _ _ i

    none_longer : (ws : List ℕ) (m : ℕ) → 0 < m → m ≤ length (h ∷ ws) → is_ok (loads_from p rs (take m (h ∷ ws))) ≡ false
    none_longer ws zero a b = absurd (omega arith)
    none_longer ws (suc m) a b = ap is_ok (bad_head (take m ws))

    at_head : (ws : List ℕ) (e : LoadError) → loads_from p rs (h ∷ ws) ≡ Err e → Stopped p rs (h ∷ ws) e
    at_head ws e k =
        let z = bad_head ws in
        let is : from.Words (record { fault = WrongKind; place = p }) ≡ e = cc in
        subst (Stopped p rs (h ∷ ws)) is (at_once p rs (h ∷ ws) _ (omega arith) (inl (refl, i)) (none_longer ws))

  module _ (i : is_head h ≡ true) where
    at_end : (e : LoadError) → loads_from p rs (h ∷ []) ≡ Err e → Stopped p rs (h ∷ []) e
    at_end e k =
        let z : loads_from p rs (h ∷ []) ≡ bad_word HeadAtEnd (p + 1) = cond-true (is_head h) _ _ i in
        let is : from.Words (record { fault = HeadAtEnd; place = p + 1 }) ≡ e = cc in
        subst (Stopped p rs (h ∷ [])) is (at_once p rs (h ∷ []) _ (omega arith) (refl, refl, i) single)
      where
        single : (m : ℕ) → 0 < m → m ≤ 1 → is_ok (loads_from p rs (take m (h ∷ []))) ≡ false
        single zero a b = absurd (omega arith)
        single (suc zero) a b = alone p rs h
        single (suc (suc m)) a b = absurd (omega arith)

    module _ (s : ℕ) (x : LoadError) (bad : (ws : List ℕ) → loads_from p rs (h ∷ (s ∷ ws)) ≡ Err x) where
      -- a fault in the first two words shows in every front that has both
      in_first : (ws : List ℕ) (e : LoadError) → Faulty rs p (h ∷ (s ∷ ws)) x → loads_from p rs (h ∷ (s ∷ ws)) ≡ Err e → Stopped p rs (h ∷ (s ∷ ws)) e
      in_first ws e f k =
          let z = bad ws in
          let is : x ≡ e = cc in
          subst (Stopped p rs (h ∷ (s ∷ ws))) is (at_once p rs (h ∷ (s ∷ ws)) x (omega arith) f both)
        where
          both : (m : ℕ) → 0 < m → m ≤ suc (suc (length ws)) → is_ok (loads_from p rs (take m (h ∷ (s ∷ ws)))) ≡ false
          both zero a b = absurd (omega arith)
          both (suc zero) a b = alone p rs h
          both (suc (suc m)) a b = ap is_ok (bad (take m ws))

stopped : (p : ℕ) (rs : List Record) (ws : List ℕ) (e : LoadError) → loads_from p rs ws ≡ Err e → Stopped p rs ws e
stopped p rs [] e k = absurd cc
stopped p rs (h ∷ []) e k = ⊎_elim (λ i. at_end p rs h i e k) (λ i. at_head p rs h i [] e k) (cases_Bool (is_head h))
stopped p rs (h ∷ (s ∷ ws)) e k =
    ⊎_elim
    (λ i.
    ⊎_elim
    (λ j. by_judge (λ n. stopped (p + 2) (rs ++ record_in h s ∷ []) ws e n) i j (judge rs (record_in h s)) refl)
    (λ j. in_first p rs h i s _ (λ l. cond-true (is_head h) _ _ i ∙ cond-false (is_second s) _ _ j) ws e (inr (refl, omega arith, i, j)) k)
    (cases_Bool (is_second s)))
    (λ i. at_head p rs h i (s ∷ ws) e k)
    (cases_Bool (is_head h))
  where
    by_judge : (loads_from (p + 2) (rs ++ record_in h s ∷ []) ws ≡ Err e → Stopped (p + 2) (rs ++ record_in h s ∷ []) ws e) → is_head h ≡ true → is_second s ≡ true → (x : Result (Unit {0}) Refusal) → judge rs (record_in h s) ≡ x → Stopped p rs (h ∷ (s ∷ ws)) e
    by_judge rec i j (Ok u) y =
        let next : loads_from (p + 2) (rs ++ record_in h s ∷ []) ws ≡ Err e = sym (cond-true (is_head h) _ _ i ∙ cond-true (is_second s) _ _ j ∙ ap (λ x. and_then x p (loads_from (p + 2) (rs ++ record_in h s ∷ []) ws)) y) ∙ k in
        further p rs h s ws e i j y (rec next)
    by_judge rec i j (Err x) y =
        in_first p rs h i s _ (λ l. cond-true (is_head h) _ _ i ∙ cond-true (is_second s) _ _ j ∙ ap (λ z. and_then z p (loads_from (p + 2) (rs ++ record_in h s ∷ []) l)) y) ws e (refl, omega arith, i, j, y) k

pub load_refuses : LoadRefuses
load_refuses ws e h =
    let t = stopped 0 [] ws e h in
    let z : 0 + 2 * length t.more ≡ 2 * length t.more = omega arith in
    record {
      rs = t.more;
      lawful = t.lawful;
      front = t.front;
      within = t.within;
      fault = subst (λ n. Faulty t.more n (drop (2 * length t.more) ws) e) z t.fault;
      longest = t.longest;
    }
