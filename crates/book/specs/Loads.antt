-- What comes of loading a list of words: the records, or the first fault and its place.
use Rattle.std.specs.Prelude.{ℕ, ◌+◌, cond, List, [], ◌∷◌, ◌++◌, Ok, Err, Result}
use Rattle.book.specs.declared.records.Record.{Record}
use Rattle.book.specs.declared.refusals.EntryError.{EntryError}
use Rattle.book.specs.declared.refusals.Refusal.{Refusal}
use Rattle.book.specs.declared.refusals.WordFault.{WordFault}
use Rattle.book.specs.declared.refusals.WordFault.TheVariants.{WrongKind, HeadAtEnd}
use Rattle.book.specs.declared.refusals.LoadError.{LoadError}
use Rattle.book.specs.declared.refusals.LoadError.TheVariants as from
use Rattle.book.specs.Words.{is_head, is_second, record_in}
use Rattle.book.specs.Rules.{judge}

abbrev pub bad_word : WordFault → ℕ → Result (List Record) LoadError
bad_word f p = Err (from.Words (record { fault = f; place = p }))

abbrev pub bad_record : Refusal → ℕ → Result (List Record) LoadError
bad_record x p = Err (from.Book (record { refusal = x; place = p }))

-- an entry's result, with the place of the record's head word
abbrev pub entry_at : Result (Unit {0}) Refusal → ℕ → Result (Unit {0}) EntryError
entry_at (Ok u) p = Ok u
entry_at (Err x) p = Err (record { refusal = x; place = p })

-- go on if the record was accepted, else say where its head stands
abbrev pub and_then : Result (Unit {0}) Refusal → ℕ → Result (List Record) LoadError → Result (List Record) LoadError
and_then (Ok u) p next = next
and_then (Err x) p next = bad_record x p

-- the words from place p on, after the records rs
abbrev pub loads_from : ℕ → List Record → List ℕ → Result (List Record) LoadError
loads_from p rs [] = Ok rs
loads_from p rs (h ∷ []) = cond (is_head h) (bad_word HeadAtEnd (p + 1)) (bad_word WrongKind p)
loads_from p rs (h ∷ (s ∷ ws)) =
    cond (is_head h)
    (cond (is_second s) (and_then (judge rs (record_in h s)) p (loads_from (p + 2) (rs ++ record_in h s ∷ []) ws)) (bad_word WrongKind (p + 1)))
    (bad_word WrongKind p)

abbrev pub loads : List ℕ → Result (List Record) LoadError
loads ws = loads_from 0 [] ws

-- what load returns
abbrev pub load_result : Result (List Record) LoadError → Result (Unit {0}) LoadError
load_result (Ok rs) = Ok tt
load_result (Err e) = Err e

-- the records after a load: those of the words, or the old ones if it was refused
abbrev pub after_load : List Record → Result (List Record) LoadError → List Record
after_load old (Ok rs) = rs
after_load old (Err e) = old
