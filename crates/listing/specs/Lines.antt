-- The bytes of the lines that programs print. Numbers are decimal without leading zeros, and each line ends with byte 10.
use Rattle.std.specs.Prelude.{ℕ, suc, List, [], ◌∷◌, ◌++◌, Ok, Err, Some, None, codes, decimal, Result, Option}
use Rattle.undoable.specs.declared.facts.Fact.{Fact}
use Rattle.book.specs.declared.records.Record.{Record}
use Rattle.book.specs.declared.records.Record.TheVariants as is
use Rattle.book.specs.declared.refusals.LoadError.{LoadError}
use Rattle.book.specs.Numbers.{number_of, place_of}
use Rattle.book.specs.Records.{fact_count, withdrawal_count, question_count}
use Rattle.book.specs.Spans.{span, deepest_of}
use Rattle.session.specs.declared.calls.Outcome.{Outcome}
use Rattle.session.specs.declared.calls.Outcome.TheVariants.{Loaded}

-- a fact's record, its fields and its span
abbrev pub line_of_span : ℕ → Fact → ℕ × ℕ → List ℕ
line_of_span n f x = codes "record " ++ (decimal n ++ (codes " fact " ++ (decimal f.first ++ (codes " " ++ (decimal f.second ++ (codes " span " ++ (decimal x.0 ++ (codes " " ++ (decimal x.1 ++ codes "\n")))))))))

-- the line of the first of some records, which has number n among all: only a fact has one
abbrev pub first_line : List Record → ℕ → List Record → List ℕ
first_line all n [] = []
first_line all n (is.Fact f ∷ rs) = line_of_span n f (span all n f)
first_line all n (is.Withdrawal f ∷ rs) = []
first_line all n (is.Question q ∷ rs) = []

-- the lines of the facts among some records, of which the first has number n
abbrev pub span_lines : List Record → ℕ → List Record → List ℕ
span_lines all n [] = []
span_lines all n (r ∷ rs) = first_line all n (r ∷ rs) ++ span_lines all (suc n) rs

abbrev pub text_of_counts : ℕ → ℕ → ℕ → ℕ → List ℕ
text_of_counts f w q d = codes "facts " ++ (decimal f ++ (codes "\nwithdrawals " ++ (decimal w ++ (codes "\nquestions " ++ (decimal q ++ (codes "\ndeepest " ++ (decimal d ++ codes "\n")))))))

abbrev pub lines_of_counts : List Record → List ℕ
lines_of_counts rs = text_of_counts (fact_count rs) (withdrawal_count rs) (question_count rs) (deepest_of rs)

-- the whole listing of a book's spans
abbrev pub listing_of_spans : List Record → List ℕ
listing_of_spans rs = span_lines rs 0 rs ++ lines_of_counts rs

abbrev pub refused_line : LoadError → List ℕ
refused_line e = codes "refused " ++ (decimal (number_of e) ++ (codes " at " ++ (decimal (place_of e) ++ codes "\n")))

-- what a program answers to a list of words: the listing of the book that they load to, or the refusal
abbrev pub report_of : Result (List Record) LoadError → List ℕ
report_of (Ok rs) = listing_of_spans rs
report_of (Err e) = refused_line e

-- the refusal of a load, if a load was the one call
abbrev pub refusal_in : List Outcome → Option LoadError
refusal_in (Loaded (Err e) ∷ []) = Some e
refusal_in _ = None
