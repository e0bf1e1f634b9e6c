-- What an accepted record was tested for, and what holds of every sound list.
use Rattle.std.proofs.Common.{◌≡◌, ℕ, ◌+◌, ◌-◌, ◌<◌, Bool, true, false, cond, ltb, List, [], ◌∷◌, ◌++◌, length, take, drop, is_ok, Ok, Err, Result, sym, refl, ap, ◌∙◌, subst, append_assoc, append-nil, zero-add, arith}
use Rattle.std.proofs.lemmas.List.{length_push, take-append-drop}
use Rattle.std.proofs.lemmas.List.Sums.{sum_by_push}
use Rattle.std.proofs.lemmas.Bool.{ltb-true, and_parts, and_from}
use Rattle.undoable.specs.declared.facts.Fact.{Fact}
use Rattle.book.specs.declared.records.Record.{Record}
use Rattle.book.specs.declared.records.Record.TheVariants as is
use Rattle.book.specs.declared.refusals.Refusal.TheVariants.{FieldTooLarge, BookFull, NothingAlive}
use Rattle.book.specs.Records.{enters, withdraws, entered_of, withdrawn_of}
use Rattle.undoable.specs.Kinds.{same}
use Rattle.book.specs.Alive.{alive_from, alive, equal_to}
use Rattle.book.specs.Rules.{fits, judge, judge_kind, sound, sound_after}
use Rattle.book.specs.Theorems.{AliveByCounts}
use Rattle.book.proofs.Living.{alive_from-append, equal_to-without, length_without}

-- a test that led to Ok was true
pub passed : {A E : Type 0} (b : Bool) (x : Result A E) (e : E) (y : A) → cond b x (Err e) ≡ Ok y → (b ≡ true) × (x ≡ Ok y)
passed true x e y h = (refl, h)
passed false x e y h = absurd cc

pub judge_ok : (rs : List Record) (r : Record) → judge rs r ≡ Ok tt → (fits r ≡ true) × (length rs < 4096) × (judge_kind rs r ≡ Ok tt)
judge_ok rs r h =
    let a = passed (fits r) _ FieldTooLarge tt h in
    let b = passed (ltb (length rs) 4096) _ BookFull tt a.1 in
    (a.0, ltb-true (length rs) 4096 b.0, b.1)

pub withdrawal_ok : (rs : List Record) (f : Fact) → judge rs (is.Withdrawal f) ≡ Ok tt → 0 < equal_to f (alive rs)
withdrawal_ok rs f h = ltb-true 0 (equal_to f (alive rs)) (passed _ (Ok tt) NothingAlive tt (judge_ok rs (is.Withdrawal f) h).2).0

pub ok_is : {E : Type 0} (x : Result (Unit {0}) E) → is_ok x ≡ true → x ≡ Ok tt
ok_is (Ok u) h = refl
ok_is (Err e) h = absurd cc

pub sound_after-push : (rs qs : List Record) (r : Record) → sound_after rs qs ≡ true → judge (rs ++ qs) r ≡ Ok tt → sound_after rs (qs ++ r ∷ []) ≡ true
sound_after-push rs [] r s j =
    let e : judge rs r ≡ Ok tt = ap (λ l. judge l r) (sym (append-nil rs)) ∙ j in
    and_from (is_ok (judge rs r)) true (ap is_ok e) refl
sound_after-push rs (q ∷ qs) r s j =
    let p = and_parts (is_ok (judge rs q)) (sound_after (rs ++ q ∷ []) qs) s in
    let e : judge ((rs ++ q ∷ []) ++ qs) r ≡ Ok tt = ap (λ l. judge l r) (append_assoc rs (q ∷ []) qs) ∙ j in
    and_from (is_ok (judge rs q)) (sound_after (rs ++ q ∷ []) (qs ++ r ∷ [])) p.0 (sound_after-push (rs ++ q ∷ []) qs r p.1 e)

pub sound-push : (rs : List Record) (r : Record) → sound rs ≡ true → judge rs r ≡ Ok tt → sound (rs ++ r ∷ []) ≡ true
sound-push rs r s j = sound_after-push [] rs r s j

-- what holds of no records, and after one more accepted record, holds of every sound list
pub sound_ind : (P : List Record → Type 0) → ((rs : List Record) (r : Record) → P rs → judge rs r ≡ Ok tt → P (rs ++ r ∷ [])) → (rs qs : List Record) → P rs → sound_after rs qs ≡ true → P (rs ++ qs)
sound_ind P step rs [] p s = subst P (sym (append-nil rs)) p
sound_ind P step rs (q ∷ qs) p s =
    let t = and_parts (is_ok (judge rs q)) (sound_after (rs ++ q ∷ []) qs) s in
    subst P (append_assoc rs (q ∷ []) qs) (sound_ind P step (rs ++ q ∷ []) qs (step rs q p (ok_is _ t.0)) t.1)

-- the facts alive after one more record
pub alive-push : (rs : List Record) (r : Record) → alive (rs ++ r ∷ []) ≡ alive_from (length rs) (alive rs) (r ∷ [])
alive-push rs r = alive_from-append 0 [] rs (r ∷ []) ∙ ap (λ n. alive_from n (alive rs) (r ∷ [])) (zero-add (length rs))

-- the equal facts alive are those entered less those withdrawn
abbrev pub Balanced : Fact → List Record → Type 0
Balanced f rs = equal_to f (alive rs) + withdrawn_of f rs ≡ entered_of f rs

entered-push : (f : Fact) (rs : List Record) (r : Record) → entered_of f (rs ++ r ∷ []) ≡ entered_of f rs + cond (enters f r) 1 0
entered-push f rs r = sum_by_push (λ x. cond (enters f x) 1 0) rs r

withdrawn-push : (f : Fact) (rs : List Record) (r : Record) → withdrawn_of f (rs ++ r ∷ []) ≡ withdrawn_of f rs + cond (withdraws f r) 1 0
withdrawn-push f rs r = sum_by_push (λ x. cond (withdraws f x) 1 0) rs r

balanced-push : (f : Fact) (rs : List Record) (r : Record) → Balanced f rs → judge rs r ≡ Ok tt → Balanced f (rs ++ r ∷ [])
balanced-push f rs (is.Fact g) h j =
    let e = ap (equal_to f) (alive-push rs (is.Fact g)) ∙ sum_by_push (λ y. cond (same f y.fact) 1 0) (alive rs) (record { number = length rs; fact = g }) in
    omega (arith, e, entered-push f rs (is.Fact g), withdrawn-push f rs (is.Fact g))
balanced-push f rs (is.Withdrawal g) h j =
    let e = ap (equal_to f) (alive-push rs (is.Withdrawal g)) in
    omega (arith, e, equal_to-without f g (alive rs) (withdrawal_ok rs g j), entered-push f rs (is.Withdrawal g), withdrawn-push f rs (is.Withdrawal g))
balanced-push f rs (is.Question q) h j =
    let e = ap (equal_to f) (alive-push rs (is.Question q)) in
    omega (arith, e, entered-push f rs (is.Question q), withdrawn-push f rs (is.Question q))

pub balanced : (f : Fact) (rs : List Record) → sound rs ≡ true → Balanced f rs
balanced f rs s = sound_ind (Balanced f) (balanced-push f) [] rs refl s

-- the front of a sound list is sound, and the record behind it was accepted
pub sound_front : (rs front : List Record) (rest : List Record) → sound_after rs (front ++ rest) ≡ true → sound_after rs front ≡ true
sound_front rs [] rest s = refl
sound_front rs (q ∷ qs) rest s =
    let p = and_parts (is_ok (judge rs q)) (sound_after (rs ++ q ∷ []) (qs ++ rest)) s in
    and_from (is_ok (judge rs q)) (sound_after (rs ++ q ∷ []) qs) p.0 (sound_front (rs ++ q ∷ []) qs rest p.1)

pub sound_next : (rs front : List Record) (r : Record) (rest : List Record) → sound_after rs (front ++ r ∷ rest) ≡ true → judge (rs ++ front) r ≡ Ok tt
sound_next rs [] r rest s =
    let p = and_parts (is_ok (judge rs r)) (sound_after (rs ++ r ∷ []) rest) s in
    ap (λ l. judge l r) (append-nil rs) ∙ ok_is (judge rs r) p.0
sound_next rs (q ∷ qs) r rest s =
    let p = and_parts (is_ok (judge rs q)) (sound_after (rs ++ q ∷ []) (qs ++ r ∷ rest)) s in
    ap (λ l. judge l r) (sym (append_assoc rs (q ∷ []) qs)) ∙ sound_next (rs ++ q ∷ []) qs r rest p.1

pub sound-take : (n : ℕ) (rs : List Record) → sound rs ≡ true → sound (take n rs) ≡ true
sound-take n rs s = sound_front [] (take n rs) (drop n rs) (ap sound (take-append-drop n rs) ∙ s)

-- how many facts are alive after one more record, if n are alive before it: each withdrawal of a sound list ends one
abbrev pub living : Record → ℕ → ℕ
living (is.Fact f) n = n + 1
living (is.Withdrawal f) n = n - 1
living (is.Question q) n = n

pub length-alive-push : (rs : List Record) (r : Record) → judge rs r ≡ Ok tt → length (alive (rs ++ r ∷ [])) ≡ living r (length (alive rs))
length-alive-push rs (is.Fact f) j = ap length (alive-push rs (is.Fact f)) ∙ length_push (alive rs) (record { number = length rs; fact = f })
length-alive-push rs (is.Withdrawal f) j = omega (arith, ap length (alive-push rs (is.Withdrawal f)), length_without f (alive rs) (withdrawal_ok rs f j))
length-alive-push rs (is.Question q) j = ap length (alive-push rs (is.Question q))

pub alive_by_counts : AliveByCounts
alive_by_counts rs s n f = balanced f (take n rs) (sound-take n rs s)
