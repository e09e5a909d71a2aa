-- A link for each number.
use Rattle.std.proofs.Common.{◌≡◌, ◌∙◌, ℕ, ◌<◌, get_or, map, arith}
use Rattle.std.specs.Prelude.{None}
use Rattle.std.specs.List.{range_with_len}
use Rattle.std.proofs.lemmas.List.FromFn.{get_or-map-range_with_len, length-map-range_with_len, fill_by_all}
use Rattle.port_trait.specs.declared.port.TheConstants.{LINK_COUNT}
use Rattle.port_trait.specs.World.{LinkThen, by_links}

-- the link with this number
pub by_links-at : (f : ℕ → LinkThen) (i : ℕ) (d : LinkThen) → i < LINK_COUNT → get_or (by_links f) i d ≡ f i
unfolding by_links
by_links-at f i d l = get_or-map-range_with_len f 0 LINK_COUNT i i d l (omega arith)

-- the same links, where each is the same
pub by_links-same : (f g : ℕ → LinkThen) → ((i : ℕ) → i < LINK_COUNT → f i ≡ g i) → by_links f ≡ by_links g
unfolding by_links
by_links-same f g same =
    let none : LinkThen = record { holds = None; faults = 0 } in
    fill_by_all g (map f (range_with_len 0 LINK_COUNT)) LINK_COUNT none (length-map-range_with_len f 0 LINK_COUNT)
    (λ k l. get_or-map-range_with_len f 0 LINK_COUNT k k none l (omega arith) ∙ same k l)
