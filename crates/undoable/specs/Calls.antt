-- What comes of each call on a structure, by its kind, its stack (the newest fact first) and its tally.
use Rattle.std.specs.Prelude.{ℕ, ◌+◌, ◌-◌, ◌%◌, ◌^◌, cond, List, [], ◌∷◌, length, drop, is_ok, None, Ok, Err, Option, Result, nat_lt}
use Rattle.std.specs.Result.{result_ok}
use Rattle.undoable.specs.declared.facts.Fact.{Fact}
use Rattle.undoable.specs.declared.facts.Question.{Question}
use Rattle.undoable.specs.declared.refusals.AskRefusal.{AskRefusal}
use Rattle.undoable.specs.declared.refusals.AskRefusal.TheVariants as unasked
use Rattle.undoable.specs.declared.refusals.PopRefusal.{PopRefusal}
use Rattle.undoable.specs.declared.refusals.PopRefusal.TheVariants.{Empty}
use Rattle.undoable.specs.declared.refusals.PushRefusal.{PushRefusal}
use Rattle.undoable.specs.declared.refusals.PushRefusal.TheVariants.{NotAdmitted, Full}
use Rattle.undoable.specs.Kinds.{Kind}

abbrev pub push_result : Kind → List Fact → Fact → Result (Unit {0}) PushRefusal
push_result k s f = cond (k.admits f) (cond (nat_lt (length s) k.capacity) (Ok tt) (Err Full)) (Err NotAdmitted)

-- the stack and the tally after a push
abbrev pub push_stack : Kind → List Fact → Fact → List Fact
push_stack k s f = cond (is_ok (push_result k s f)) (f ∷ s) s

abbrev pub push_tally : Kind → List Fact → Fact → ℕ → ℕ
push_tally k s f t = cond (is_ok (push_result k s f)) ((t + 1) % 2 ^ 32) t

abbrev pub pop_result : List Fact → Result Fact PopRefusal
pop_result [] = Err Empty
pop_result (f ∷ s) = Ok f

abbrev pub pop_stack : List Fact → List Fact
pop_stack [] = []
pop_stack (f ∷ s) = s

abbrev pub ask_result : Kind → List Fact → Question → Result ℕ AskRefusal
ask_result k s q = cond (k.asks q) (Ok (k.rule s q)) (Err unasked.NotAdmitted)

-- the stack cut to a height, if it is higher, and how many facts that takes
abbrev pub cut_to : ℕ → List Fact → List Fact
cut_to h s = drop (length s - h) s

-- the answer with one fact more, if both the fact and the question are accepted
abbrev pub trial_answer : Kind → List Fact → Fact → Question → Option ℕ
trial_answer k s f q = cond (is_ok (push_result k s f)) (result_ok (ask_result k (f ∷ s) q)) None
