-- What a call touches, where that is more than one port.
use Rattle.std.specs.Prelude.{ℕ, ◌+◌, ◌<◌, ◌≤◌, ◌≡◌, ◌≢◌, List, [], ◌∷◌}
use Rattle.port_trait.specs.declared.port.TheConstants.{PORT_COUNT}
use Rattle.port_trait.specs.World.{World}

-- a part of the outside: one port, n ports from one on, the guests who come and go, the children who are started
pub data Part : Type 0 where
  One : ℕ → Part
  From : ℕ → ℕ → Part
  Crowd : Part
  Children : Part

-- what holds of a port that is none of these
abbrev pub OffThem : List Part → ℕ → Type 0 → Type 0
OffThem [] q Holds = Holds
OffThem (One p ∷ parts) q Holds = q ≢ p → OffThem parts q Holds
OffThem (From base n ∷ parts) q Holds = (base ≤ q → q < base + n → ⊥) → OffThem parts q Holds
OffThem (Crowd ∷ parts) q Holds = OffThem parts q Holds
OffThem (Children ∷ parts) q Holds = OffThem parts q Holds

-- what holds where no guests are among these
abbrev pub UnlessCrowd : List Part → Type 0 → Type 0
UnlessCrowd [] Holds = Holds
UnlessCrowd (Crowd ∷ parts) Holds = Unit {0}
UnlessCrowd (One p ∷ parts) Holds = UnlessCrowd parts Holds
UnlessCrowd (From base n ∷ parts) Holds = UnlessCrowd parts Holds
UnlessCrowd (Children ∷ parts) Holds = UnlessCrowd parts Holds

-- what holds where no children are among these
abbrev pub UnlessChildren : List Part → Type 0 → Type 0
UnlessChildren [] Holds = Holds
UnlessChildren (Children ∷ parts) Holds = Unit {0}
UnlessChildren (One p ∷ parts) Holds = UnlessChildren parts Holds
UnlessChildren (From base n ∷ parts) Holds = UnlessChildren parts Holds
UnlessChildren (Crowd ∷ parts) Holds = UnlessChildren parts Holds

-- these parts alone are touched: every other port stays, and no guest comes or goes, and no child is started, unless that is
-- among them
pub record TouchesOnly (parts : List Part) (old new : World) : Type 0 where
  pub others : (q : ℕ) → q < PORT_COUNT → OffThem parts q (new.at q ≡ old.at q)
  pub crowd : UnlessCrowd parts (new.crowd ≡ old.crowd)
  pub started : UnlessChildren parts (new.started ≡ old.started)
