-- Walks: one after another, back again, and along the facts of another list.
use Rattle.std.proofs.Common.{◌≡◌, ℕ, Bool, false, List, ◌∷◌, sym, subst, arith}
use Rattle.undoable.specs.declared.facts.Fact.{Fact}
use Rattle.bands.specs.Rule.{far, mirrors, ◌⊕◌, Among, later, Walk, stay, along, against}

pub sum_assoc : (p q r : Bool) → (p ⊕ q) ⊕ r ≡ p ⊕ (q ⊕ r)
sum_assoc p q r = grind arith

pub sum_comm : (p q : Bool) → p ⊕ q ≡ q ⊕ p
sum_comm p q = grind arith

pub sum_none : (p : Bool) → p ⊕ false ≡ p
sum_none p = grind arith

pub none_sum : (p : Bool) → false ⊕ p ≡ p
none_sum p = grind arith

pub sum_self : (p : Bool) → p ⊕ p ≡ false
sum_self p = grind arith

pub sum_twice : (p q : Bool) → (p ⊕ q) ⊕ q ≡ p
sum_twice p q = grind arith

pub round_trip : (a b m : Bool) → (a ⊕ m) ⊕ b ≡ a ⊕ b ⊕ m
round_trip a b m = grind arith

back_parity : (p q : Bool) → p ⊕ (q ⊕ false) ≡ q ⊕ p
back_parity p q = grind arith

module _ {fs : List Fact} where
  pub walk_then : {x y z : ℕ} {p q : Bool} → Walk fs x y p → Walk fs y z q → Walk fs x z (p ⊕ q)
  walk_then {q = q} (stay {x}) w = subst (Walk fs x _) (sym (none_sum q)) w
  walk_then {z = z} {q = q} (along {f} {y} {p} m v) w = subst (Walk fs f.first z) (sym (sum_assoc (mirrors f) p q)) (along m (walk_then v w))
  walk_then {z = z} {q = q} (against {f} {y} {p} m v) w = subst (Walk fs (far f) z) (sym (sum_assoc (mirrors f) p q)) (against m (walk_then v w))

  pub walk_back : {x y : ℕ} {p : Bool} → Walk fs x y p → Walk fs y x p
  walk_back stay = stay
  walk_back (along {f} {y} {p} m v) = subst (Walk fs y f.first) (back_parity p (mirrors f)) (walk_then (walk_back v) (against m stay))
  walk_back (against {f} {y} {p} m v) = subst (Walk fs y (far f)) (back_parity p (mirrors f)) (walk_then (walk_back v) (along m stay))

  -- one step
  pub walk_step : {f : Fact} → Among f fs → Walk fs f.first (far f) (mirrors f)
  walk_step {f} m = subst (Walk fs f.first (far f)) (sum_none (mirrors f)) (along m stay)

pub walk_on : {fs gs : List Fact} → ((f : Fact) → Among f fs → Among f gs) → {x y : ℕ} {p : Bool} → Walk fs x y p → Walk gs x y p
walk_on i stay = stay
walk_on i (along {f} m v) = along (i f m) (walk_on i v)
walk_on i (against {f} m v) = against (i f m) (walk_on i v)

-- with one fact more
pub walk_more : {f : Fact} {fs : List Fact} {x y : ℕ} {p : Bool} → Walk fs x y p → Walk (f ∷ fs) x y p
walk_more w = walk_on (λ h m. later m) w
