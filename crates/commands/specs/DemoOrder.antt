-- What the words of `demo` order.
use Rattle.std.specs.Prelude.{ℕ, ◌+◌, List, [], ◌∷◌, ◌++◌, map, codes, decimal}
use Rattle.std.specs.List.{range_with_len}
use Rattle.query_rounds.specs.declared.plan.FetchPlan.{FetchPlan}
use Rattle.commands.specs.FetchOrder.{FetchOrder, plain_fetch}

-- the port before that of the first child, the name of the database, the plan of the fetch from them, which has a child for
-- each of its servers, the block that is fetched, and the name of the coins
pub record DemoOrder : Type 0 where
  pub port : ℕ
  pub database : List ℕ
  pub plan : FetchPlan
  pub block : ℕ
  pub coins : List ℕ

-- the address of child i, counted from 1: on loopback, at the port that is greater by i
unfoldable pub address_from : ℕ → ℕ → List ℕ
address_from port i = codes "127.0.0.1:" ++ decimal (port + i)

-- the addresses of the first n children
unfoldable pub addresses_from : ℕ → ℕ → List (List ℕ)
addresses_from port n = map (address_from port) (range_with_len 1 n)

-- the addresses of all children
abbrev pub addresses_of_children : DemoOrder → List (List ℕ)
addresses_of_children o = addresses_from o.port o.plan.n

-- the nine words by which a database in rows of this width is served to one guest at this address
unfoldable pub words_to_serve : List ℕ → ℕ → List ℕ → List (List ℕ)
words_to_serve database width address =
    codes "serve"
    ∷ (codes "--database" ∷ (database ∷ (codes "--width"
    ∷ (decimal width ∷ (codes "--conns" ∷ (codes "1" ∷ (codes "--listen" ∷ (address ∷ []))))))))

-- the words that each child is started with, in their order
abbrev pub words_of_children : DemoOrder → List (List (List ℕ))
words_of_children o = map (λ i. words_to_serve o.database o.plan.s (address_from o.port i)) (range_with_len 1 o.plan.n)

-- the fetch from the children
abbrev pub fetch_from_children : DemoOrder → FetchOrder
fetch_from_children o = plain_fetch o.plan (o.block ∷ []) (addresses_of_children o) o.coins
