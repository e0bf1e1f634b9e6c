-- The facts that the chains hold, for private contracts.
use Rattle.std.specs.Prelude.{◌≡◌, ℕ, List, []}
use Rattle.solver.specs.declared.chain.Chain.{Chain}
use Rattle.solver.specs.declared.chains.Chains.{Chains}
use Rattle.solver.specs.Chains.{chain, facts_at}

-- the facts that are left of a chain, by their record numbers
abbrev pub facts_left : Chain → List ℕ
facts_left c = chain c.link c.pieces.now c.link

-- the facts at each node, by their record numbers
abbrev pub placed : Chains → ℕ → List ℕ
placed c = facts_at c.nodes.now c.pieces.now

-- no entry is in use
pub record IsEmpty (c : Chains) : Type 0 where
  pub used : c.used ≡ 0
  pub none : (m : ℕ) → placed c m ≡ []
