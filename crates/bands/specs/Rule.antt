-- Bands: which walks along facts join two bands.
use Rattle.std.specs.Prelude.{◌≡◌, ℕ, ◌%◌, Bool, true, false, cond, not, ◌&&◌, List, [], ◌∷◌, count_by, ◌==◌, nat_le}
use Rattle.std.specs.Bool.{beq}
use Rattle.std.specs.List.{range_with_len}
use Rattle.undoable.specs.declared.facts.Fact.{Fact}
use Rattle.undoable.specs.declared.facts.Question.{Question}
use Rattle.undoable.specs.Kinds.{Kind}
use Rattle.bands.specs.declared.relations.Relation.{Relation}
use Rattle.bands.specs.declared.relations.Relation.TheVariants.{Apart, Equal, Mirrored, Both}

-- there are 1,024 bands; a fact says that `first` equals `far`, or mirrors it where the second field is the band plus 1,024
abbrev pub far : Fact → ℕ
far f = f.second % 1024

abbrev pub mirrors : Fact → Bool
mirrors f = nat_le 1024 f.second

abbrev pub admits_band : Fact → Bool
admits_band f = nat_le f.first 1023 && nat_le f.second 2047

-- a question names two bands
abbrev pub asks_bands : Question → Bool
asks_bands q = nat_le q.first 1023 && nat_le q.second 1023

-- the parity of two walks one after the other; that of an odd walk is true
infixl 35 ◌⊕◌
abbrev pub ◌⊕◌ : Bool → Bool → Bool
p ⊕ q = not (beq p q)

-- a fact of a list
pub data Among (f : Fact) : List Fact → Type 0 where
  here : {fs : List Fact} → Among f (f ∷ fs)
  later : {g : Fact} {fs : List Fact} → Among f fs → Among f (g ∷ fs)

-- a walk from band to band along facts of a list, either way, with its parity
pub data Walk (fs : List Fact) : ℕ → ℕ → Bool → Type 0 where
  stay : {x : ℕ} → Walk fs x x false
  along : {f : Fact} {y : ℕ} {p : Bool} → Among f fs → Walk fs (far f) y p → Walk fs f.first y (mirrors f ⊕ p)
  against : {f : Fact} {y : ℕ} {p : Bool} → Among f fs → Walk fs f.first y p → Walk fs (far f) y (mirrors f ⊕ p)

-- each band has two sides; an odd walk ends on the other side
pub record Side : Type 0 where
  pub band : ℕ
  pub other : Bool

abbrev pub side_of : ℕ → Bool → Side
side_of x p = record { band = x; other = p }

abbrev pub same_side : Side → Side → Bool
same_side s t = s.band == t.band && beq s.other t.other

-- labels with the label of t turned into that of s
abbrev pub merged : (Side → Side) → Side → Side → Side → Side
merged l s t x = cond (same_side (l x) (l t)) (l s) (l x)

-- a label for each side: a fact gives the sides that it joins one label; `ByWalks` says what equal labels come to
abbrev pub label : List Fact → Side → Side
label [] x = x
label (f ∷ fs) x =
    merged (merged (label fs) (side_of f.first false) (side_of (far f) (mirrors f))) (side_of f.first true) (side_of (far f) (not (mirrors f))) x

-- the relation by whether an even and whether an odd walk joins two bands
abbrev pub relation_by : Bool → Bool → Relation
relation_by true true = Both
relation_by true false = Equal
relation_by false true = Mirrored
relation_by false false = Apart

-- the answer rule
abbrev pub relation : List Fact → ℕ → ℕ → Relation
relation fs a b = relation_by (same_side (label fs (side_of a false)) (label fs (side_of b false))) (same_side (label fs (side_of a false)) (label fs (side_of b true)))

abbrev pub number : Relation → ℕ
number Apart = 0
number Equal = 1
number Mirrored = 2
number Both = 3

-- the kind of a bands structure with room for c facts
abbrev pub bands_kind : ℕ → Kind
bands_kind c = record { capacity = c; admits = admits_band; asks = asks_bands; rule = λ fs q. number (relation fs q.first q.second) }

-- Equal or Both; Mirrored or Both
abbrev pub has_even : Relation → Bool
has_even Apart = false
has_even Equal = true
has_even Mirrored = false
has_even Both = true

abbrev pub has_odd : Relation → Bool
has_odd Apart = false
has_odd Equal = false
has_odd Mirrored = true
has_odd Both = true

-- a relation says of each parity whether a walk of it joins two bands
pub record Tells (fs : List Fact) (a b : ℕ) (r : Relation) : Type 0 where
  pub even_walk : has_even r ≡ true → Walk fs a b false
  pub even_only : Walk fs a b false → has_even r ≡ true
  pub odd_walk : has_odd r ≡ true → Walk fs a b true
  pub odd_only : Walk fs a b true → has_odd r ≡ true

-- for every list of facts and every two bands an even walk exists exactly if the answer is Equal or Both, and an odd one
-- exactly if it is Mirrored or Both
abbrev pub ByWalks : Type 0
ByWalks = (fs : List Fact) (a b : ℕ) → Tells fs a b (relation fs a b)

-- some walk joins the two
abbrev pub together : Relation → Bool
together Apart = false
together Equal = true
together Mirrored = true
together Both = true

-- how many bands are in the group of a band
unfoldable pub group_size : List Fact → ℕ → ℕ
group_size fs a = count_by (λ b. together (relation fs a b)) (range_with_len 0 1024)

-- answers worked by hand: 0 equals 1, 1 mirrors 2, and then 0 equals 2
abbrev pub WorkedBands : Type 0
WorkedBands =
    let equal : ℕ → ℕ → Fact = λ a b. record { first = a; second = b } in
    let mirror : Fact = record { first = 1; second = 1026 } in
    let fs : List Fact = mirror ∷ (equal 0 1 ∷ []) in
    let gs : List Fact = equal 0 2 ∷ fs in
    (number (relation fs 0 2) ≡ 2) × (number (relation fs 0 3) ≡ 0) × (number (relation fs 2 2) ≡ 1) × (number (relation gs 0 2) ≡ 3) × (number (relation gs 1 1) ≡ 3)
