-- A stack that never fell below a height still has, up to that height, the facts that it had.
use Rattle.std.proofs.Common.{◌≡◌, ℕ, zero, suc, ◌-◌, ◌≤◌, true, false, cond, List, [], ◌∷◌, length, drop, is_ok, Some, None, Option, sym, refl, ap, ◌∙◌, suc-le-suc, arith, length-drop}
use Rattle.undoable.specs.declared.facts.Fact.{Fact}
use Rattle.undoable.specs.Calls.{push_result, push_stack, pop_stack, cut_to}
use Rattle.undoable.specs.Kinds.{Kind}
use Rattle.session.specs.declared.calls.Call.{Call}
use Rattle.session.specs.declared.calls.Call.TheVariants as call
use Rattle.session.specs.Model.{State, next, height_of, roll_stack, finally}
use Rattle.session.specs.Theorems.{NeverBelow, RollBackRestores}

-- a fact above the height is cut off
cut_more : (h : ℕ) (f : Fact) (s : List Fact) → h ≤ length s → cut_to h (f ∷ s) ≡ cut_to h s
cut_more h f s p =
    let e : suc (length s) - h ≡ suc (length s - h) = omega arith in
    ap (λ n. drop n (f ∷ s)) e

cut_all : (s : List Fact) → cut_to (length s) s ≡ s
cut_all s = let e : length s - length s ≡ 0 = omega arith in ap (λ n. drop n s) e

-- what is dropped from above the height does not matter
cut-drop : (h a : ℕ) (s : List Fact) → h ≤ length (drop a s) → cut_to h (drop a s) ≡ cut_to h s
cut-drop h zero s p = refl
cut-drop h (suc a) [] p = refl
cut-drop h (suc a) (f ∷ s) p =
    let q : h ≤ length s = omega (arith, length-drop a s) in
    cut-drop h a s p ∙ sym (cut_more h f s q)

pushed : (h : ℕ) (k : Kind) (s : List Fact) (f : Fact) → h ≤ length s → cut_to h (push_stack k s f) ≡ cut_to h s
pushed h k s f p =
    elim (is_ok (push_result k s f)) as (λ b. cut_to h (cond b (f ∷ s) s) ≡ cut_to h s) [ true ↦ cut_more h f s p | false ↦ refl ]

popped : (h : ℕ) (s : List Fact) → h ≤ length (pop_stack s) → cut_to h (pop_stack s) ≡ cut_to h s
popped h [] p = refl
popped h (f ∷ s) p = sym (cut_more h f s p)

rolled : (h : ℕ) (s : List Fact) (o : Option ℕ) → h ≤ length (roll_stack s o) → cut_to h (roll_stack s o) ≡ cut_to h s
rolled h s None p = refl
rolled h s (Some n) p = cut-drop h (length s - n) s p

-- one call
kept_below : (k : Kind) (h : ℕ) (s : State) (c : Call) → h ≤ length s.stack → h ≤ length (next k s c).stack → cut_to h (next k s c).stack ≡ cut_to h s.stack
kept_below k h s (call.Fact f) p q = refl
kept_below k h s (call.Withdrawal f) p q = refl
kept_below k h s (call.Question x) p q = refl
kept_below k h s (call.Load ws) p q = refl
kept_below k h s (call.Push f) p q = pushed h k s.stack f p
kept_below k h s call.Pop p q = popped h s.stack q
kept_below k h s (call.Ask x) p q = refl
kept_below k h s call.Mark p q = refl
kept_below k h s (call.RollBack n) p q = rolled h s.stack (height_of n s.marks) q
kept_below k h s (call.Keep n) p q = refl

-- a list of calls
all_kept : (k : Kind) (h : ℕ) (s : State) (cs : List Call) → NeverBelow k h s cs → cut_to h (finally k s cs).stack ≡ cut_to h s.stack
all_kept k h s [] never = refl
all_kept k h s (c ∷ cs) never =
    all_kept k h (next k s c) cs (λ n p. never (suc n) (suc-le-suc p))
    ∙ kept_below k h s c (never 0 (omega arith)) (never 1 (omega arith))

pub roll_back_restores : RollBackRestores
roll_back_restores k s between never there =
    let e = finally k (next k s call.Mark) between in
    ap (roll_stack e.stack) there
    ∙ all_kept k (length s.stack) (next k s call.Mark) between never
    ∙ cut_all s.stack
