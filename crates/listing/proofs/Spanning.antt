-- What one record more adds to the lines of the facts: the line of its fact, or nothing.
use Rattle.std.proofs.Common.{◌≡◌, ℕ, zero, suc, ◌+◌, List, [], ◌∷◌, drop, Some, None, sym, refl, ap, ◌∙◌, append_assoc}
use Rattle.std.proofs.lemmas.List.{drop-drop}
use Rattle.undoable.specs.declared.facts.Fact.{Fact}
use Rattle.book.specs.declared.records.Record.{Record}
use Rattle.book.specs.declared.records.Record.TheVariants as is
use Rattle.book.specs.Records.{fact_in}
use Rattle.book.specs.Spans.{span_if, span_at, fact_within}
use Rattle.listing.specs.Lines.{line_of_span, first_line}

pub ahead_more : (n : ℕ) (all rest : List Record) (r : Record) → r ∷ rest ≡ drop n all → rest ≡ drop (n + 1) all
ahead_more n all rest r e = ap (drop 1) e ∙ drop-drop 1 n all

pub line_of_fact : (all : List Record) (n : ℕ) (r : Record) (rest : List Record) (f : Fact) (x : ℕ × ℕ) → r ∷ rest ≡ drop n all → Some f ≡ fact_in r → Some x ≡ span_at all n → first_line all n (r ∷ rest) ≡ line_of_span n f x
line_of_fact all n (is.Fact g) rest f x e i s =
    let known = s ∙ ap (λ l. span_if all n (fact_within l)) (sym e) in
    cc
line_of_fact all n (is.Withdrawal g) rest f x e i s = cc
line_of_fact all n (is.Question q) rest f x e i s = cc

pub no_fact : (all : List Record) (n : ℕ) (r : Record) (rest : List Record) → None ≡ fact_in r → first_line all n (r ∷ rest) ≡ []
no_fact all n (is.Fact g) rest i = cc
no_fact all n (is.Withdrawal g) rest i = refl
no_fact all n (is.Question q) rest i = refl

pub no_span : (all : List Record) (n : ℕ) (r : Record) (rest : List Record) → r ∷ rest ≡ drop n all → None ≡ span_at all n → first_line all n (r ∷ rest) ≡ []
no_span all n (is.Fact g) rest e s = let known = s ∙ ap (λ l. span_if all n (fact_within l)) (sym e) in cc
no_span all n (is.Withdrawal g) rest e s = refl
no_span all n (is.Question q) rest e s = refl

pub ruleset spanning = (ahead_more, line_of_fact, no_fact, no_span, append_assoc)
