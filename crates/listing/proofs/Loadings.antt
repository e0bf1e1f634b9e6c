-- What is printed after one load is what the words come to.
use Rattle.std.proofs.Common.{◌≡◌, List, [], ◌∷◌, Some, None, Ok, Err, Result, sym, ap}
use Rattle.book.specs.declared.records.Record.{Record}
use Rattle.book.specs.declared.refusals.LoadError.{LoadError}
use Rattle.book.specs.Loads.{load_result, after_load}
use Rattle.session.specs.declared.calls.Outcome.TheVariants.{Loaded}
use Rattle.listing.specs.Lines.{refused_line, listing_of_spans, refusal_in, report_of}

pub refusal_told : (x : Result (List Record) LoadError) (e : LoadError) → Some e ≡ refusal_in (Loaded (load_result x) ∷ []) → report_of x ≡ refused_line e
refusal_told (Ok rs) e p = cc
refusal_told (Err f) e p = let same : f ≡ e = cc in ap refused_line same

pub listing_told : (x : Result (List Record) LoadError) (old rs : List Record) → None ≡ refusal_in (Loaded (load_result x) ∷ []) → rs ≡ after_load old x → report_of x ≡ listing_of_spans rs
listing_told (Ok rs) old new p e = ap listing_of_spans (sym e)
listing_told (Err f) old new p e = cc
