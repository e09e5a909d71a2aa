-- What the calls of `Ports` do to what is told.
use Rattle.std.specs.Prelude.{ℕ, ◌+◌, ◌-◌, ◌<◌, ◌≤◌, ◌^◌, ◌≡◌, ◌≢◌, min, List, [], ◌∷◌, ◌++◌, length, take, drop, IfSome}
use Rattle.std.specs.Option.{option_map}
use Rattle.port_trait.specs.World.{Cell, World}
use Rattle.port_trait.specs.declared.port.TheConstants.{PORT_COUNT}

-- a count rose, or stands at its limit
abbrev pub Rose : ℕ → ℕ → Type 0
Rose before now = min (before + 1) (2 ^ 64 - 1) ≤ now

-- a count rose by one, or stands at its limit
abbrev pub RoseOnce : ℕ → ℕ → Type 0
RoseOnce before now = now ≡ min (before + 1) (2 ^ 64 - 1)

-- a count rose by no more than so many
abbrev pub RoseAtMost : ℕ → ℕ → ℕ → Type 0
RoseAtMost most before now = now ≤ before + most

-- the cell after n bytes are handed out
abbrev pub took : ℕ → Cell → Cell
took n c = record c { holds = option_map (drop n) c.holds }

-- the cell after these bytes are taken
abbrev pub gave : List ℕ → Cell → Cell
gave bytes c = record c { accepted = option_map (λ a. a ++ bytes) c.accepted }

-- the cell after an opening by this name
abbrev pub named : List ℕ → Cell → Cell
named name c = record c { opened = option_map (λ ns. ns ++ name ∷ []) c.opened }

-- the cell with another count
abbrev pub counted : ℕ → Cell → Cell
counted n c = record c { faults = n }

-- nothing but this port is touched, no guest comes or goes, and no child is started
pub record Touches (p : ℕ) (old new : World) : Type 0 where
  pub others : (q : ℕ) → q < PORT_COUNT → q ≢ p → new.at q ≡ old.at q
  pub crowd : new.crowd ≡ old.crowd
  pub started : new.started ≡ old.started

-- n bytes came into the start of a slice: the first that were held. The rest of the slice stays
pub record Came (n : ℕ) (before after held : List ℕ) : Type 0 where
  pub there : n ≤ length held
  pub bytes : take n after ≡ take n held
  pub rest : drop n after ≡ drop n before

-- n bytes are handed out, into the start of a slice
pub record Hands (p n : ℕ) (before after : List ℕ) (old new : World) : Type 0 where
  pub fits : n ≤ length before
  pub cell : new.at p ≡ took n (old.at p)
  pub told : IfSome (old.at p).holds (Came n before after)

-- a call on the port failed: its count rose by one, or stands at its limit, and nothing else of it changed
pub record Fails (p : ℕ) (old new : World) : Type 0 where
  pub cell : new.at p ≡ counted (new.at p).faults (old.at p)
  pub rose : RoseOnce (old.at p).faults (new.at p).faults
