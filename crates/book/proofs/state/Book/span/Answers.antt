use Rattle.std.proofs.Common.{◌≡◌, ℕ, zero, suc, ◌+◌, List, [], ◌∷◌, drop, Some, sym, refl, ap, ◌∙◌}
use Rattle.book.specs.declared.records.Record.{Record}
use Rattle.book.specs.declared.records.Record.TheVariants as is
use Rattle.book.specs.Listed.{listed}
use Rattle.book.specs.Records.{fact_in}
use Rattle.book.specs.Spans.{until, fact_within, span_if}
use Rattle.book.specs.View.{records_of}
use Rattle.book.proofs.Judging.{alive_by_counts}
use Rattle.book.proofs.Surviving.{alive_by_spans}
use Rattle.book.proofs.state.Book.span.Goals as goal

pub returns-in_err-next-clause-alive : goal.returns-in_err-next-clause-alive
returns-in_err-next-clause-alive c = alive_by_spans

pub returns-in_err-next-clause-counts : goal.returns-in_err-next-clause-counts
returns-in_err-next-clause-counts c = alive_by_counts

pub returns-in_err-fact-clause-alive : goal.returns-in_err-fact-clause-alive
returns-in_err-fact-clause-alive c = alive_by_spans

pub returns-in_err-fact-clause-counts : goal.returns-in_err-fact-clause-counts
returns-in_err-fact-clause-counts c = alive_by_counts

pub returns-clause-alive : goal.returns-clause-alive
returns-clause-alive c = alive_by_spans

pub returns-clause-counts : goal.returns-clause-counts
returns-clause-counts c = alive_by_counts

first_fact : (r : Record) (rs : List Record) → fact_within (r ∷ rs) ≡ fact_in r
first_fact (is.Fact f) rs = refl
first_fact (is.Withdrawal f) rs = refl
first_fact (is.Question q) rs = refl

-- what stands behind the first of the records from number n on
drop_next : (n : ℕ) (rs : List Record) (r : Record) (rest : List Record) → drop n rs ≡ r ∷ rest → drop (suc n) rs ≡ rest
drop_next zero [] r rest e = cc
drop_next zero (x ∷ rs) r rest e = cc
drop_next (suc n) [] r rest e = cc
drop_next (suc n) (x ∷ rs) r rest e = drop_next n rs r rest e

pub returns-clause-result : goal.returns-clause-result
returns-clause-result c =
    let rs = records_of c.args.self.now in
    let n = c.args.number in
    let r = c.in_ok-next.field-0 in
    let f = c.in_ok-fact.fact in
    let here : drop n rs ≡ r ∷ listed c.next.new.self = sym c.records_from-others.ensures ∙ c.in_ok-next.ensures.steps in
    let is_fact = ap fact_within here ∙ first_fact r (listed c.next.new.self) ∙ sym c.fact.ensures ∙ c.in_ok-fact.was in
    let after = c.questions_until-after.ensures.until ∙ (λ i. until f (c.front-before.ensures.equal i) (sym (drop_next n rs r _ here) i)) in
    (λ i. Some (c.front-before.ensures.questions i, c.front-before.ensures.questions i + after i)) ∙ sym (ap (span_if rs n) is_fact)
