-- The table: rows with links to parents, how a fact changes them, and how that is taken back.
use Rattle.std.specs.Prelude.{◌≡◌, ℕ, zero, suc, ◌+◌, ◌*◌, ◌^◌, ◌<◌, ◌≤◌, Bool, true, false, cond, ◌||◌, List, [], ◌∷◌, map, length, replicate, Some, None, Option, ◌==◌, nat_lt, slice_index_or, slice_set}
use Rattle.undoable.specs.declared.facts.Fact.{Fact}
use Rattle.undoable.specs.Kinds.{admits_all}
use Rattle.bands.specs.declared.relations.Depth.{Depth}
use Rattle.bands.specs.declared.relations.Relation.{Relation}
use Rattle.bands.specs.declared.relations.Relation.TheVariants.{Apart, Equal, Mirrored, Both}
use Rattle.bands.specs.declared.steps.BandStep.{BandStep}
use Rattle.bands.specs.declared.steps.Place.{Place}
use Rattle.bands.specs.declared.steps.Row.{Row}
use Rattle.bands.specs.Rule.{far, mirrors, admits_band, ◌⊕◌, group_size}

-- the row of a band that is alone
abbrev pub fresh : Row
fresh = record { parent = None; turned = false; size = 1; odd = false }

-- what is read beyond the table
abbrev pub nothing : Row
nothing = record { parent = None; turned = false; size = 0; odd = false }

abbrev pub row_at : List Row → ℕ → Row
row_at rs x = slice_index_or rs x nothing

-- a place seen from one link below
abbrev pub one_more : Bool → Place → Place
one_more t p = record { root = p.root; odd = t ⊕ p.odd; links = p.links + 1 }

-- a climb goes on where there is a parent
abbrev pub follow : Bool → ℕ → (ℕ → Place) → Option ℕ → Place
follow t x up None = record { root = x; odd = false; links = 0 }
follow t x up (Some y) = one_more t (up y)

-- the end of a climb of at most n links
unfoldable pub climbed : ℕ → List Row → ℕ → Place
climbed zero rs x = record { root = x; odd = false; links = 0 }
climbed (suc n) rs x = follow (row_at rs x).turned x (climbed n rs) (row_at rs x).parent

-- ten links are enough for 1,024 bands (`FewLinks`)
abbrev pub place_of : List Row → ℕ → Place
place_of rs x = climbed 10 rs x

-- what makes climbs end, within the table: sizes at least double from link to link
pub record Sound (rs : List Row) : Type 0 where
  pub long : length rs ≡ 1024
  pub positive : (x : ℕ) → x < 1024 → 1 ≤ (row_at rs x).size
  pub most : (x : ℕ) → (row_at rs x).size ≤ 1024
  pub inside : (x y : ℕ) → (row_at rs x).parent ≡ Some y → y < 1024
  pub doubling : (x y : ℕ) → (row_at rs x).parent ≡ Some y → 2 * (row_at rs x).size ≤ (row_at rs y).size

-- a step with the rows that it will change
abbrev pub step_from : List Row → Fact → Bool → ℕ → ℕ → BandStep
step_from rs f t l h = record { first = f.first; second = f.second; low = l; high = h; turned = t; below = row_at rs l; above = row_at rs h }

-- the root with the smaller group goes below; between equal ones that of `first` stays
abbrev pub step_of : List Row → Fact → BandStep
step_of rs f =
    let one : Place = place_of rs f.first in
    let two : Place = place_of rs (far f) in
    let t : Bool = one.odd ⊕ two.odd ⊕ mirrors f in
    cond (nat_lt (row_at rs one.root).size (row_at rs two.root).size) (step_from rs f t one.root two.root) (step_from rs f t two.root one.root)

-- the rows that a step writes: of the one root, of the root that goes below, and of the root that stays
abbrev pub closed_row : BandStep → Row
closed_row s = record { parent = s.above.parent; turned = s.above.turned; size = s.above.size; odd = s.above.odd || s.turned }

abbrev pub low_row : BandStep → Row
low_row s = record { parent = Some s.high; turned = s.turned; size = s.below.size; odd = s.below.odd }

abbrev pub high_row : BandStep → Row
high_row s = record { parent = s.above.parent; turned = s.above.turned; size = s.above.size + s.below.size; odd = s.above.odd || s.below.odd }

-- the table after a step, and after it is taken back
abbrev pub after : BandStep → List Row → List Row
after s rs = cond (s.low == s.high) (slice_set rs s.high (closed_row s)) (slice_set (slice_set rs s.low (low_row s)) s.high (high_row s))

abbrev pub undone : BandStep → List Row → List Row
undone s rs = slice_set (slice_set rs s.low s.below) s.high s.above

-- the rows and the steps of a list of facts, the newest first
unfoldable pub rows_of : List Fact → List Row
rows_of [] = replicate 1024 fresh
rows_of (f ∷ fs) = after (step_of (rows_of fs) f) (rows_of fs)

unfoldable pub steps_of : List Fact → List BandStep
steps_of [] = []
steps_of (f ∷ fs) = step_of (rows_of fs) f ∷ steps_of fs

abbrev pub fact_of : BandStep → Fact
fact_of s = record { first = s.first; second = s.second }

abbrev pub facts_of : List BandStep → List Fact
facts_of ss = map fact_of ss

abbrev pub all_admitted : List Fact → Bool
all_admitted fs = admits_all admits_band fs

-- what the rows say of two bands
abbrev pub related : List Row → ℕ → ℕ → Relation
related rs a b =
    let one : Place = place_of rs a in
    let two : Place = place_of rs b in
    cond (one.root == two.root) (cond (row_at rs one.root).odd Both (cond (one.odd ⊕ two.odd) Mirrored Equal)) Apart

-- how deep a band is
abbrev pub depth_of : List Fact → ℕ → Option Depth
depth_of fs a = cond (nat_lt a 1024) (Some (record { links = (place_of (rows_of fs) a).links; bands = group_size fs a })) None

-- in a group of n bands a root is reached in at most ⌊log2 n⌋ links
abbrev pub FewLinks : Type 0
FewLinks =
    (fs : List Fact) → all_admitted fs ≡ true → (a : ℕ) → a < 1024 → ((row_at (rows_of fs) (place_of (rows_of fs) a).root).parent ≡ None) × (2 ^ (place_of (rows_of fs) a).links ≤ group_size fs a)

-- a step taken back leaves the rows that it met
abbrev pub TakenBack : Type 0
TakenBack = (fs : List Fact) (f : Fact) → undone (step_of (rows_of fs) f) (rows_of (f ∷ fs)) ≡ rows_of fs
