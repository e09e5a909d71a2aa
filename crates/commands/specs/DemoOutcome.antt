-- What `demo` does to the outside, by the status that it ends with.
use Rattle.std.specs.Prelude.{◌≡◌, ◌⊎◌, ℕ, ◌+◌, ◌<◌, ◌≤◌, List, [], ◌∷◌, length, take, ◌++◌, Some}
use Rattle.std.specs.Option.{option_map}
use Rattle.port_trait.specs.declared.port.TheConstants.{PORT_COUNT}
use Rattle.port_trait.specs.World.{World}
use Rattle.port_trait.specs.Number.{OUTPUT, COINS, child}
use Rattle.port_trait.specs.Moves.{Fails, Touches}
use Rattle.query_rounds.specs.Plan.{need}
use Rattle.commands.specs.Told.{NoneRose, NoChildRose}
use Rattle.commands.specs.DemoOrder.{DemoOrder, fetch_from_children, words_of_children}
use Rattle.commands.specs.FetchOutcome.{FetchOutcome, FetchReported}
use Rattle.commands.specs.declared.status.Status.{Status}
use Rattle.commands.specs.declared.status.Status.TheVariants.{ChildFault, BadInput, Memory}
use Rattle.commands.specs.declared.status.Bad.TheVariants.{CoinsEnded}

-- children were started with these lists of words, the last that are told of, and nothing else changed
pub record StartsAll (lists : List (List (List ℕ))) (old new : World) : Type 0 where
  pub started : new.started ≡ option_map (λ starts. starts ++ lists) old.started
  pub ports : (q : ℕ) → q < PORT_COUNT → new.at q ≡ old.at q
  pub crowd : new.crowd ≡ old.crowd

-- the children before one were started, and then that one could not be: its port counts the failed call, and nothing
-- else changed
pub record StartsSome (lists : List (List (List ℕ))) (old new : World) : Type 0 where
  pub before : ℕ
  pub fewer : before < length lists
  pub between : World
  pub starts : StartsAll (take before lists) old between
  pub fails : Fails (child 1 + before) between new
  pub others : Touches (child 1 + before) between new

-- all children were started, and then a fetch from them ended with this status
pub record Demonstrated (o : DemoOrder) (status : Status) (old new : World) : Type 0 where
  pub between : World
  pub starts : StartsAll (words_of_children o) old between
  pub fetched : FetchOutcome (fetch_from_children o) status between new

-- what `demo` did, and that it did no more, by its status. Without a child no link is opened, and memory may run out
-- before anything is touched
abbrev pub DemoOutcome : DemoOrder → Status → World → World → Type 0
DemoOutcome o ChildFault old new = StartsSome (words_of_children o) old new
DemoOutcome o Memory old new = (new ≡ old) ⊎ Demonstrated o Memory old new
DemoOutcome o status old new = Demonstrated o status old new

-- all children were started, and the verdict on the session with them is written whole
pub record DemoReported (o : DemoOrder) (status : Status) (old new : World) : Type 0 where
  pub started : new.started ≡ option_map (λ starts. starts ++ words_of_children o) old.started
  pub reported : FetchReported (fetch_from_children o) status old new

-- the ports that `demo` uses but the links and the children
abbrev pub files : List ℕ
files = OUTPUT ∷ COINS ∷ []

-- what `demo` promises where no call failed but on links, but that memory may run out: where Coins holds enough, all
-- children were started, each with its words, and the text of the verdict on the session with them is written whole;
-- where it holds fewer, that is said, with their number
pub record DemoPromise (o : DemoOrder) (status : Status) (old new : World) : Type 0 where
  pub reported : (held : List ℕ) → (old.at COINS).holds ≡ Some held → need o.plan 1 ≤ length held
      → NoneRose files old new → NoChildRose o.plan.n old new → DemoReported o status old new ⊎ (status ≡ Memory)
  pub too_few_coins : (held : List ℕ) → (old.at COINS).holds ≡ Some held → length held < need o.plan 1
      → NoneRose files old new → NoChildRose o.plan.n old new
      → (status ≡ BadInput (CoinsEnded (length held))) ⊎ (status ≡ Memory)
