-- Climbs link by link: they end where the table says, and in few links.
use Rattle.std.proofs.Common.{◌≡◌, ℕ, zero, suc, ◌+◌, ◌*◌, ◌^◌, ◌<◌, ◌≤◌, Bool, false, List, Some, None, Option, sym, refl, ap, ◌∙◌, subst, ⊎_elim, mul_comm, pow-suc, add-one, arith, pow_mono}
use Rattle.std.proofs.lemmas.Bool.{cases_lt}
use Rattle.bands.specs.declared.steps.Place.{Place}
use Rattle.bands.specs.declared.steps.Row.{Row}
use Rattle.bands.specs.Rows.{row_at, one_more, follow, climbed, place_of}
use Rattle.bands.specs.Rule.{◌⊕◌}
use Rattle.bands.proofs.Walking.{sum_assoc, sum_none, none_sum}

-- a climb from a band: its links, where it ends, and its parity
pub data Climbs (rs : List Row) : ℕ → ℕ → ℕ → Bool → Type 0 where
  top : {x : ℕ} → (row_at rs x).parent ≡ None → Climbs rs x 0 x false
  up : {x y n r : ℕ} {t p : Bool} → (row_at rs x).parent ≡ Some y → (row_at rs x).turned ≡ t → Climbs rs y n r p → Climbs rs x (n + 1) r (t ⊕ p)

abbrev pub place_at : ℕ → ℕ → Bool → Place
place_at n r p = record { root = r; odd = p; links = n }

-- powers of two
pub twice-pow : (n : ℕ) → 2 ^ (n + 1) ≡ 2 * 2 ^ n
twice-pow n = ap (λ (k : ℕ). 2 ^ k) (add-one n) ∙ pow-suc 2 n ∙ mul_comm (2 ^ n) 2

pub few_links : (n : ℕ) → 2 ^ n ≤ 1024 → n ≤ 10
few_links n h =
    ⊎_elim
    (λ (l : n < 11). omega arith)
    (λ (l : 11 ≤ n). absurd (omega (arith, h, pow_mono l)))
    (cases_lt n 11)

pub none_some : (o : Option ℕ) (y : ℕ) → o ≡ None → o ≡ Some y → ⊥
none_some o y e h = cc

-- a climb that has not too many links ends where the table says
pub climbs_climbed : {rs : List Row} {x n r : ℕ} {p : Bool} → Climbs rs x n r p → (k : ℕ) → n ≤ k → climbed k rs x ≡ place_at n r p
unfolding climbed
climbs_climbed {rs} (top {x} e) zero h = refl
climbs_climbed {rs} (top {x} e) (suc k) h = ap (follow (row_at rs x).turned x (climbed k rs)) e
climbs_climbed {rs} (up {x} {y} {n} {r} {t} {p} e d c) zero h = absurd (omega arith)
climbs_climbed {rs} (up {x} {y} {n} {r} {t} {p} e d c) (suc k) h =
    ap (follow (row_at rs x).turned x (climbed k rs)) e ∙ (λ i. one_more (d i) (climbs_climbed c k (omega arith) i))

-- a climb ends at a root
pub climbs_top : {rs : List Row} {x n r : ℕ} {p : Bool} → Climbs rs x n r p → (row_at rs r).parent ≡ None
climbs_top (top e) = e
climbs_top (up e d c) = climbs_top c

-- a root has no link
pub climbs_none : {rs : List Row} {x n r : ℕ} {p : Bool} → Climbs rs x n r p → (row_at rs x).parent ≡ None → n ≡ 0
climbs_none (top e) h = refl
climbs_none {rs} (up {x} {y} e d c) h = absurd (none_some (row_at rs x).parent y h e)

module _ {rs : List Row} (doubling : (x y : ℕ) → (row_at rs x).parent ≡ Some y → 2 * (row_at rs x).size ≤ (row_at rs y).size) where
  -- sizes at least double with each link
  climbs_pow : {x n r : ℕ} {p : Bool} → Climbs rs x n r p → (m : ℕ) → 2 ^ m ≤ (row_at rs x).size → 2 ^ (m + n) ≤ (row_at rs r).size
  climbs_pow (top {x} e) m h = let z : m + 0 ≡ m = omega arith in subst (λ k. 2 ^ k ≤ (row_at rs x).size) (sym z) h
  climbs_pow (up {x} {y} {n} {r} e d c) m h =
      let z : m + 1 + n ≡ m + (n + 1) = omega arith in
      subst (λ k. 2 ^ k ≤ (row_at rs r).size) z (climbs_pow c (m + 1) (omega (arith, h, doubling x y e, twice-pow m)))

  pub climbs_shallow : {x n r : ℕ} {p : Bool} → Climbs rs x n r p → 1 ≤ (row_at rs x).size → 2 ^ n ≤ (row_at rs r).size
  climbs_shallow {x} {n} {r} c one = let z : 0 + n ≡ n = omega arith in subst (λ k. 2 ^ k ≤ (row_at rs r).size) z (climbs_pow c 0 (omega arith))

  pub climbs_size : {x n r : ℕ} {p : Bool} → Climbs rs x n r p → (row_at rs x).size ≤ (row_at rs r).size
  climbs_size (top e) = omega arith
  climbs_size (up {x} {y} {n} {r} e d c) = omega (arith, climbs_size c, doubling x y e)

-- the way of a climb that is not at its end: from a band, its links, where it is, and its parity
pub data Way (rs : List Row) (x : ℕ) : ℕ → ℕ → Bool → Type 0 where
  start : Way rs x 0 x false
  step : {n y z : ℕ} {p : Bool} → Way rs x n y p → (row_at rs y).parent ≡ Some z → Way rs x (n + 1) z (p ⊕ (row_at rs y).turned)

way_on : {rs : List Row} {x n y m r : ℕ} {p q : Bool} → Way rs x n y p → Climbs rs y m r q → Climbs rs x (n + m) r (p ⊕ q)
way_on {rs} {x} {m = m} {r} {q = q} start c =
    let e : m ≡ 0 + m = omega arith in
    subst (λ k. Climbs rs x k r (false ⊕ q)) e (subst (Climbs rs x m r) (sym (none_sum q)) c)
way_on {rs} {x} {m = m} {r} {q = q} (step {n} {y} {z} {p} w e) c =
    let more : n + (m + 1) ≡ n + 1 + m = omega arith in
    let t : Bool = (row_at rs y).turned in
    subst (λ k. Climbs rs x k r ((p ⊕ t) ⊕ q)) more (subst (Climbs rs x (n + (m + 1)) r) (sym (sum_assoc p t q)) (way_on w (up e refl c)))

-- the end of a way at a root
pub way_place : {rs : List Row} {x n y : ℕ} {p : Bool} → Way rs x n y p → (row_at rs y).parent ≡ None → n ≤ 10 → place_at n y p ≡ place_of rs x
way_place {rs} {x} {n} {y} {p} w e few =
    let z : n + 0 ≡ n = omega arith in
    let c = subst (Climbs rs x (n + 0) y) (sum_none p) (way_on w (top e)) in
    sym (climbs_climbed (subst (λ k. Climbs rs x k y p) z c) 10 few)
