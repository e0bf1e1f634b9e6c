-- What is true of a structure stays true: at a refused call, at a push and at a pop.
use Rattle.std.proofs.Common.{◌≡◌, ℕ, ◌<◌, min, true, List, [], ◌∷◌, length, get_or, set, sym, ap, ◌∙◌, subst, arith}
use Rattle.std.proofs.lemmas.List.{length-map, length-set}
use Rattle.std.proofs.lemmas.Bool.{and_parts, and_from}
use Rattle.undoable.specs.Kinds.{admits_all}
use Rattle.undoable.specs.Stacks.{held, room}
use Rattle.prizes.specs.declared.lines.Prize.{Prize}
use Rattle.prizes.specs.declared.rows.Rows.{Rows}
use Rattle.prizes.specs.declared.structure.Prizes.{Prizes}
use Rattle.prizes.specs.Rule.{admits_prize}
use Rattle.prizes.specs.Saved.{row_of, row_with, fact_of, facts_of, AreSaved}
use Rattle.prizes.proofs.Rowing.{row_more}
use Rattle.prizes.proofs.Saving.{saved_more, saved_less, saved_last}

-- the ghost fields of `Prizes`, where the history holds these prizes
abbrev pub Holds : List Prize → ℕ → ℕ → Rows → Type 0
Holds ps memory limit rows = record {
  admitted : admits_all admits_prize (facts_of ps) ≡ true;
  limited : limit ≡ min memory (length rows.saved.now);
  present : rows.row ≡ row_of (facts_of ps);
  before : AreSaved (facts_of ps) rows.saved.now;
}

abbrev pub ps_of : Prizes → List Prize
ps_of p = held p.history.stack

holds : (p : Prizes) → Holds (ps_of p) (room p.history.stack) p.history.limit p.rows
holds p = record { admitted = p.admitted; limited = p.limited; present = p.present; before = p.before }

module _ (p : Prizes) (ps : List Prize) (memory : ℕ) (kept : memory ≡ room p.history.stack) (limit : ℕ) (same : limit ≡ p.history.limit) where
  pub refused : ps ≡ ps_of p → Holds ps memory limit p.rows
  refused e =
      let lent : Holds (ps_of p) memory p.history.limit p.rows = subst (λ (m : ℕ). Holds (ps_of p) m p.history.limit p.rows) (sym kept) (holds p) in
      subst (λ (qs : List Prize). Holds qs memory limit p.rows) (sym e) (subst (λ (n : ℕ). Holds (ps_of p) memory n p.rows) (sym same) lent)

  pub pushed : (top : Prize) (n : ℕ) (rows : Rows) → ps ≡ top ∷ ps_of p → n ≡ length (ps_of p) → n < p.history.limit → admits_prize (fact_of top) ≡ true → rows.row ≡ row_with top p.rows.row → rows.saved.now ≡ set p.rows.saved.now n p.rows.row → Holds ps memory limit rows
  pushed top n rows e long room admitted row saved =
      let fs = facts_of (ps_of p) in
      let height : n ≡ length (facts_of (ps_of p)) = long ∙ sym (length-map (ps_of p) fact_of) in
      let lt : n < length p.rows.saved.now = omega (arith, p.limited) in
      subst (λ (qs : List Prize). Holds qs memory limit rows) (sym e) (record {
        admitted = and_from _ _ admitted p.admitted;
        limited = omega (arith, same, kept, p.limited, ap length saved, length-set p.rows.saved.now n p.rows.row);
        present = row ∙ row_more top fs p.rows.row p.present;
        before = subst (AreSaved (fact_of top ∷ fs)) (sym saved) (saved_more (fact_of top) fs p.rows.saved.now p.rows.row n height lt p.present p.before);
      })

  pub popped : (top : Prize) (n : ℕ) (rows : Rows) → ps_of p ≡ top ∷ ps → n ≡ length ps → rows.row ≡ get_or p.rows.saved.now n [] → rows.saved.now ≡ p.rows.saved.now → Holds ps memory limit rows
  popped top n rows e long row saved =
      let f = fact_of top in
      let fs = facts_of ps in
      let was : Holds (top ∷ ps) (room p.history.stack) p.history.limit p.rows = subst (λ (qs : List Prize). Holds qs (room p.history.stack) p.history.limit p.rows) e (holds p) in
      let height : length (facts_of ps) ≡ n = length-map ps fact_of ∙ sym long in
      record {
        admitted = (and_parts (admits_prize f) _ was.admitted).1;
        limited = omega (arith, same, kept, p.limited, ap length saved);
        present = row ∙ ap (λ k. get_or p.rows.saved.now k []) (sym height) ∙ saved_last f fs p.rows.saved.now was.before;
        before = subst (AreSaved fs) (sym saved) (saved_less f fs p.rows.saved.now was.before);
      }
