-- A turn of the reduction: what the slot of the highest bit does to a mask.
use Rattle.std.proofs.Common.{◌≡◌, ℕ, suc, ◌*◌, ◌^◌, ◌<◌, ◌≤◌, ◌≢◌, cond, eqb, List, length, get_or, set, Some, None, Option, ap, ◌∙◌, sym, pow-suc, arith, pow_pos}
use lib.Bits.{bit_xor}
use Rattle.std.proofs.lemmas.Bool.{cond-true, cond-false, eq-eqb, ne_eqb}
use Rattle.masks.specs.Reducing.{reduced, slot_of, left_of, Shaped}
use Rattle.masks.proofs.Adding.{put_shaped}
use Rattle.masks.proofs.Highest.{slot_is, slot_within, xor_below}
use Rattle.masks.proofs.Spanned.{spanned_zero, spanned_reduced, stop, turn}

abbrev left : ℕ → Option (ℕ × ℕ)
left r = cond (eqb r 0) None (Some (slot_of r, r))

pub none_left : (b : List ℕ) → Shaped b → left_of b 0 ≡ None
none_left b s = cond-true _ _ _ (eq-eqb (reduced b 58 0) 0 (spanned_reduced b s 58 0 (spanned_zero b 58)))

-- a mask m whose highest bit is at t: it is left if the slot t is empty, and otherwise a lower mask leaves the same
pub record Turn (b : List ℕ) (m t : ℕ) : Type 0 where
  pub within : t < 58
  pub last : get_or b t 0 ≡ 0 → left_of b m ≡ Some (t, m)
  pub fits : get_or b t 0 ≡ 0 → Shaped (set b t m)
  pub lower : get_or b t 0 ≢ 0 → bit_xor m (get_or b t 0) < m
  pub on : get_or b t 0 ≢ 0 → left_of b (bit_xor m (get_or b t 0)) ≡ left_of b m

pub turn_at : (b : List ℕ) → Shaped b → length b ≡ 58 → (m t : ℕ) → m < 2 ^ 58 → 2 ^ t ≤ m → m < 2 * 2 ^ t → Turn b m t
turn_at b s long m t low le gt =
    let in_slots = slot_within t m le low in
    let lt : m < 2 ^ suc t = omega (arith, pow-suc 2 t) in
    record {
      within = in_slots;
      last = λ z.
          ap left (stop b s t m in_slots (le, lt) z)
          ∙ cond-false _ _ _ (ne_eqb m 0 (λ z. omega (arith, pow_pos t)))
          ∙ ap (λ k. Some (k, m)) (slot_is t m (omega (arith, in_slots)) le lt);
      fits = λ z. put_shaped b t m z (omega (arith, in_slots, long)) s (le, lt);
      lower = λ n. omega (arith, xor_below t m (get_or b t 0) (le, lt) (s t n));
      on = λ n. ap left (sym (turn b s t m in_slots (le, lt) n));
    }
