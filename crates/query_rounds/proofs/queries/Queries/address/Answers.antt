use Rattle.std.proofs.Common.{◌≡◌, ◌∙◌, ◌<◌, ℕ, [], map, string_bytes, sym, ap, subst, length, get_or, arith}
use Rattle.std.proofs.lemmas.List.{get_or-map, length-map}
use Rattle.query_rounds.specs.Queries.{Queries}
use Rattle.query_rounds.proofs.queries.Queries.address.Goals as goal

-- a place before the last server is one of the addresses
is_address : (from place servers given len : ℕ) → from ≡ place → place < servers → given ≡ servers → len ≡ given → from < len
is_address from place servers given len is below same all = omega (arith, is, below, same, all)

pub bounds-self-inside-from : goal.bounds-self-inside-from
bounds-self-inside-from c =
    is_address _ _ _ _ _ c.from.ensures c.requires (ap (λ (q : Queries). q.plan.n) c.self.view_is)
    (sym (length-map c.self.inside.addresses.now string_bytes) ∙ c.self.invariant.addresses)

pub returns : goal.returns
returns c =
    let addresses = c.self.inside.addresses.now in
    let within = is_address _ _ _ _ _ c.from.ensures c.requires (ap (λ (q : Queries). q.plan.n) c.self.view_is)
    (sym (length-map addresses string_bytes) ∙ c.self.invariant.addresses) in
    c.deref.ensures
    ∙ sym (get_or-map string_bytes addresses c.from.result c.index-self-from.result [] within)
    ∙ ap (λ (i : ℕ). get_or (map string_bytes addresses) i []) c.from.ensures
    ∙ ap (λ (q : Queries). get_or q.addresses c.args.place []) c.self.view_is
