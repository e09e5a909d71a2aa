-- What `run` promises where the words were not read as a command, and that no command is refused as words are.
use Rattle.std.proofs.Common.{◌≡◌, inl, inr, Err, List, ℕ, None, refl, rules, ap}
use Rattle.std.specs.Prelude.{option_map}
use Rattle.port_trait.specs.World.{World}
use Rattle.pir_words.specs.Form.{IsReadAs, asked_of}
use Rattle.pir_words.specs.declared.asked.WordsFault.{WordsFault}
use Rattle.pir_words.specs.declared.asked.WordsFault.TheVariants.{Usage as Formless, Memory as NoMemory}
use Rattle.commands.specs.Faults.{of_words}
use Rattle.commands.specs.Orders.{Orders, Outcome, Promise, order_of}
use Rattle.commands.specs.Outcome.{RefusesWords}
use Rattle.commands.specs.declared.orders.Order.{Order}
use Rattle.commands.specs.declared.orders.Order.TheVariants.{Replay, Demo}
use Rattle.commands.specs.declared.status.Status.{Status}
use Rattle.commands.specs.declared.status.Status.TheVariants.{Usage, Memory}

-- no order ends as words without a form do
pub no_usage : (order : Order) (old new : World) → Outcome order Usage old new → ⊥
no_usage (Demo order) old new said = said.fetched.ends
no_usage order old new said = said.ends

-- where words that order something were not read, memory ran out
pub no_room : (words : List (List ℕ)) (fault : WordsFault) (status : Status) (order : Order)
    → IsReadAs (asked_of words) (Err fault) → status ≡ of_words fault → Orders words order → status ≡ Memory
no_room words Formless status order read is orders =
    let none : option_map order_of (asked_of words) ≡ None = ap (option_map order_of) read in
    absurd cc
no_room words NoMemory status order read is orders = is

-- words without a form are refused
pub refused : (words : List (List ℕ)) (fault : WordsFault) (status : Status) (w : World) → IsReadAs (asked_of words) (Err fault) → status ≡ of_words fault → RefusesWords words status w w
refused words Formless status w read is = record { formless = λ _. read; said = λ _. inl is; untouched = λ _. refl }
refused words NoMemory status w read is = record { formless = λ usage. absurd cc; said = λ _. inr is; untouched = λ _. refl }

-- for want of memory each promise is kept, since each ends with that
pub none_broken : (status : Status) (old new : World) → status ≡ Memory → (order : Order) → Promise order status old new
none_broken status old new is (Replay order) = search (rules, is)
none_broken status old new is order = search (rules, is)
