-- The ways in which a node lies to a span, for private contracts.
use Rattle.std.specs.Prelude.{ℕ, ◌-◌, ◌<◌, ◌≤◌, ◌⊎◌}
use Rattle.solver.specs.declared.span.Overlap.{Overlap}
use Rattle.solver.specs.declared.span.Overlap.TheVariants.{Apart, Inside, Across}

-- what each way says of the node (lo, hi) and the span x; a node that lies across one of its ends has two questions at least
abbrev pub Lies : Overlap → ℕ × ℕ → ℕ → ℕ → Type 0
Lies Apart x lo hi = (x.1 ≤ lo) ⊎ (hi ≤ x.0)
Lies Inside x lo hi = (x.0 ≤ lo) × (hi ≤ x.1)
Lies Across x lo hi = ((lo < x.0) ⊎ (x.1 < hi)) × (2 ≤ hi - lo)
