-- What a run does to the outside and promises, by what its words order and the status that it ends with.
use Rattle.std.specs.Prelude.{◌≡◌, ◌⊎◌, ℕ, List, None, Some}
use Rattle.port_trait.specs.World.{World}
use Rattle.port_trait.specs.Number.{INPUT}
use Rattle.wire_frames.specs.Session.{Transcript, IsSession}
use Rattle.pir_words.specs.Form.{asked_of}
use Rattle.commands.specs.Told.{NoneRose}
use Rattle.commands.specs.ReplayOrder.{ReplayOrder}
use Rattle.commands.specs.ReplayOutcome.{Answered, streams}
use Rattle.commands.specs.Orders.{Orders, Outcome, Promise}
use Rattle.commands.specs.declared.orders.Order.{Order}
use Rattle.commands.specs.declared.orders.Order.TheVariants.{Replay}
use Rattle.commands.specs.declared.status.Status.{Status}
use Rattle.commands.specs.declared.status.Status.TheVariants.{Usage, Memory}

-- memory ran out before the order was made, and nothing was touched; or this is what was done for it
abbrev pub Runs : Order → Status → World → World → Type 0
Runs order status old new = ((status ≡ Memory) × (new ≡ old)) ⊎ Outcome order status old new

-- words without a form, and they alone, are refused, unless memory runs out; then nothing was touched
pub record RefusesWords (words : List (List ℕ)) (status : Status) (old new : World) : Type 0 where
  pub formless : status ≡ Usage → asked_of words ≡ None
  pub said : asked_of words ≡ None → (status ≡ Usage) ⊎ (status ≡ Memory)
  pub untouched : asked_of words ≡ None → new ≡ old

-- what the words order ends as it may, by its status
abbrev pub EndsAsOrdered : List (List ℕ) → Status → World → World → Type 0
EndsAsOrdered words status old new = (order : Order) → Orders words order → Runs order status old new

-- where the words order a replay, Input holds a session and no call failed, exactly the text of its verdict is written, and that
-- of its report behind it where one is wanted, or memory ran out
abbrev pub AnswersSession : List (List ℕ) → Status → World → World → Type 0
AnswersSession words status old new = (order : ReplayOrder) (bytes : List ℕ) (session : Transcript)
    → Orders words (Replay order) → (old.at INPUT).holds ≡ Some bytes → IsSession bytes session
    → NoneRose streams old new → Answered session order.report status old new ⊎ (status ≡ Memory)

-- each promise of what the words order is kept
abbrev pub KeepsPromise : List (List ℕ) → Status → World → World → Type 0
KeepsPromise words status old new = (order : Order) → Orders words order → Promise order status old new
