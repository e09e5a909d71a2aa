use Rattle.std.proofs.Common.{◌≡◌, ◌∙◌, ◌<◌, ℕ, Fits, w8, List, length, take, get_or, sym, arith}
use Rattle.std.specs.Prelude.{Option, Some, None, IfSome}
use Rattle.std.proofs.lemmas.List.{take_all}
use Rattle.std.proofs.lemmas.List.Elements.{All-from_get_or}
use Rattle.port_trait.specs.World.{World}
use Rattle.port_trait.specs.Number.{COINS}
use Rattle.port_trait.specs.Moves.{Came, Hands}
use Rattle.port_trait.specs.Tossed.{RunsOut, Tossed}
use Rattle.port_trait.specs.Whole.{Ends}
use Rattle.query_rounds.proofs.coins.take_coins.Goals as goal

-- the coins that came are the first that were held
came : (before after : List ℕ) (n : ℕ) (holds : Option (List ℕ)) → length after ≡ n → IfSome holds (Came n before after) → IfSome holds (λ held. after ≡ take n held)
came before after n None size told = tt
came before after n (Some held) size told = sym (take_all n after (omega (arith, size))) ∙ told.bytes

-- the coins were taken whole
tossed : (before after : List ℕ) (w v : World) → length after ≡ length before → ((i : ℕ) → Fits w8 (get_or after i 0)) → Hands COINS (length before) before after w v
    → Tossed (length before) after (w.at COINS) (v.at COINS)
tossed before after w v size fits hands = record {
  size = size;
  bytes = All-from_get_or (λ b. b < 256) after 0 (λ i _. omega (arith, fits i));
  cell = hands.cell;
  told = came before after (length before) (w.at COINS).holds size hands.told;
}

-- the coins ended before
runs_out : (n : ℕ) (before after : List ℕ) (w v : World) → Ends COINS n before after w v → RunsOut (length before) n (w.at COINS) (v.at COINS)
runs_out n before after w v ends = record { fewer = ends.fewer; cell = ends.hands.cell; all = ends.all }

pub read_exactly-requires : goal.read_exactly-requires
read_exactly-requires g c = c.requires

pub returns-in-Full-clause-taken : goal.returns-in-Full-clause-taken
returns-in-Full-clause-taken g c = tossed c.args.coins.now c.read_exactly.new.into _ _ c.read_exactly.auto.into c.type_inv.coins c.in-Full.ensures.filled

pub returns-in-Full-clause-others : goal.returns-in-Full-clause-others
returns-in-Full-clause-others g c = c.read_exactly.ensures.others

pub returns-in-Ended-clause-taken : goal.returns-in-Ended-clause-taken
returns-in-Ended-clause-taken g c = runs_out c.in-Ended.taken c.args.coins.now c.read_exactly.new.into _ _ c.in-Ended.ensures.filled

pub returns-in-Ended-clause-others : goal.returns-in-Ended-clause-others
returns-in-Ended-clause-others g c = c.read_exactly.ensures.others

pub returns-in-Failed-clause-taken : goal.returns-in-Failed-clause-taken
returns-in-Failed-clause-taken g c = c.in-Failed.ensures.filled

pub returns-in-Failed-clause-others : goal.returns-in-Failed-clause-others
returns-in-Failed-clause-others g c = c.read_exactly.ensures.others
