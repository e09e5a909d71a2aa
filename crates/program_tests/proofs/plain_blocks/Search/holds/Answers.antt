use Rattle.std.proofs.Common.{◌≡◌, ◌<◌, ℕ, List, [], length, get_or, sym, ap, ◌∙◌, arith, below_more}
use Rattle.std.proofs.lemmas.List.{length-map, get_or-map}
use Rattle.gf256.specs.Polynomial.{val}
use Rattle.block_decoder.specs.Numbered.{numbered, all_numbered}
use Rattle.block_decoder.proofs.Weight.{holds_first-true, holds_first-false}
use Rattle.program_tests.proofs.plain_blocks.Search.holds.Goals as goal

-- the value of the polynomial with the number at a place
value-all_numbered : (t : ℕ) (numbers : List ℕ) (at k : ℕ) → k < length numbers → val (get_or (all_numbered t numbers) k []) at ≡ val (numbered t (get_or numbers k 0)) at
value-all_numbered t numbers at k l = ap (λ p. val p at) (get_or-map (numbered t) numbers k 0 [] l)

pub returns-then-value_at-payload : goal.returns-then-value_at-payload
returns-then-value_at-payload c =
    let t = c.args.self.now.degree in
    let numbers = c.args.numbers.now in
    let k = c.loop-column.column in
    let n = length-map numbers (numbered t) in
    let value = c.value_at.ensures ∙ ap (val (numbered t (get_or numbers k 0))) c.index.ensures in
    let byte = ap (λ bytes. get_or bytes k 0) c.payload.ensures in
    sym (holds_first-false (all_numbered t numbers) c.args.answer.now (omega (arith, n, c.requires.columns)) k (omega (arith, n))
    (λ e. c.if-value_at-payload.true (value ∙ sym (value-all_numbered t numbers c.args.answer.now.index k (omega arith)) ∙ e ∙ sym byte)))

pub loop-column-preserved : goal.loop-column-preserved
loop-column-preserved c =
    let t = c.args.self.now.degree in
    let k = c.loop-column.column in
    let value = c.value_at.ensures ∙ ap (val (numbered t (get_or c.args.numbers.now k 0))) c.index.ensures in
    below_more _ _ c.loop-column.invariant (sym value ∙ c.if-value_at-payload.false ∙ ap (λ bytes. get_or bytes k 0) c.payload.ensures)

pub returns : goal.returns
returns c =
    let t = c.args.self.now.degree in
    let numbers = c.args.numbers.now in
    let n = length-map numbers (numbered t) in
    sym (holds_first-true (all_numbered t numbers) c.args.answer.now (omega (arith, n, c.requires.columns))
    (λ k l. value-all_numbered t numbers c.args.answer.now.index k (omega (arith, n)) ∙ c.loop-column.invariant k (omega (arith, n))))
