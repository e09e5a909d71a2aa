use Rattle.std.proofs.Common.{◌∙◌, ℕ, List, ◌++◌, length, drop, refl, ap, arith}
use Rattle.client_calls.proofs.Joined.{joined_is}
use Rattle.client_calls.proofs.listing.write_listing.Goals as goal

pub returns-then-out-wanted : goal.returns-then-out-wanted
returns-then-out-wanted c =
    let is = joined_is c.blocks-blocks.result.now c.args.listing.now c.blocks-blocks.ensures.all in
    ((c.in-Some.ensures ∙ ap length is, c.if-out-wanted.true), refl)

pub returns : goal.returns
returns c =
    let is = joined_is c.blocks-blocks.result.now c.args.listing.now c.blocks-blocks.ensures.all in (
      c.in-Some.ensures ∙ ap length is,
      omega (arith, c.if-out-wanted.false),
      ap (λ (l : List ℕ). l ++ drop c.in-Some.wanted c.args.out.now) (c.write_joined.ensures ∙ is),
    )
