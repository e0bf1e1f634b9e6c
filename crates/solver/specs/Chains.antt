-- The tables of the placing, for private contracts: a chain of facts at each node of the tree.
use Rattle.std.specs.Prelude.{◌≡◌, ℕ, zero, suc, List, [], ◌∷◌, ◌++◌, replicate, count_by, nat_eq, slice_index, slice_index_or}

-- pair m of the nodes' table links to the first entry of node number m's chain; 0 is no link, and k + 1 links to entry k
abbrev pub link_of : List (List ℕ) → ℕ → ℕ
link_of ns m = slice_index (slice_index_or ns m []) 0

-- pair k of the pieces' table is entry k: a fact and the link to the next entry
abbrev pub fact_of_entry : List (List ℕ) → ℕ → ℕ
fact_of_entry ps k = slice_index (slice_index_or ps k []) 0

abbrev pub link_after : List (List ℕ) → ℕ → ℕ
link_after ps k = slice_index (slice_index_or ps k []) 1

-- the facts of a chain; n bounds the length
abbrev pub chain : ℕ → List (List ℕ) → ℕ → List ℕ
chain zero ps k = []
chain (suc n) ps zero = []
chain (suc n) ps (suc k) = fact_of_entry ps k ∷ chain n ps (link_after ps k)

-- the facts at node number m: a link leads to an earlier entry than the last, so it bounds the length of its chain
abbrev pub facts_at : List (List ℕ) → List (List ℕ) → ℕ → List ℕ
facts_at ns ps m = chain (link_of ns m) ps (link_of ns m)

-- how often a number stands in a list
abbrev pub times_in : ℕ → List ℕ → ℕ
times_in m xs = count_by (nat_eq m) xs

-- the fact f was put on the chains of the nodes with these numbers, and on no other
abbrev pub Added : ℕ → List ℕ → (ℕ → List ℕ) → (ℕ → List ℕ) → Type 0
Added f numbers old new = (m : ℕ) → new m ≡ replicate (times_in m numbers) f ++ old m
