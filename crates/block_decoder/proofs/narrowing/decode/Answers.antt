use borrow.Rule.Slice.PartMut.{post_of}
use Rattle.std.proofs.Common.{◌≡◌, ◌+◌, ◌-◌, ◌≤◌, ◌++◌, ◌∙◌, ℕ, List, [], length, take, drop, IfOk, sym, ap, subst, arith, length-append, length-drop}
use Rattle.std.proofs.lemmas.List.{length-take-le, take_all, take_at, drop_at, drop_all, append-nil}
use Rattle.block_decoder.specs.Narrowing.{IsRunOf}
use Rattle.block_decoder.proofs.narrowing.decode.Goals as goal

-- all places from one on
part_fits : (column : ℕ) (block : List ℕ) → column ≤ length block → column + length (take (length block - column) (drop column block)) ≡ length block
part_fits column block l =
    let size = length-drop column block in
    let whole = ap length (take_all (length block - column) (drop column block) (omega (arith, size))) in
    omega (arith, size, whole, l)

-- the block with all places from one on replaced
replaced : (column : ℕ) (block out : List ℕ) → column ≤ length block → take column block ++ (out ++ post_of column (length block - column) block) ≡ take column block ++ out
replaced column block out l =
    let size = length-drop column block in
    let rest : post_of column (length block - column) block ≡ [] = drop_all (length block - column) (drop column block) (omega (arith, size)) in
    ap (λ (rest : List ℕ). take column block ++ (out ++ rest)) rest ∙ ap (λ (part : List ℕ). take column block ++ part) (append-nil out)

-- it is as long as it was
replaced-size : (column : ℕ) (block out : List ℕ) → column ≤ length block → length out ≡ length (take (length block - column) (drop column block)) → length (take column block ++ out) ≡ length block
replaced-size column block out l size =
    let both = length-append (take column block) out in
    let first = length-take-le column block l in
    let part = part_fits column block l in
    omega (arith, both, first, part, size)

pub decode_into-requires-clause-enough : goal.decode_into-requires-clause-enough
decode_into-requires-clause-enough g c = c.requires.enough

pub decode_into-requires-clause-distinct : goal.decode_into-requires-clause-distinct
decode_into-requires-clause-distinct g c = c.requires.distinct

pub returns-clause-cols : goal.returns-clause-cols
returns-clause-cols g c = c.decode_into.ensures.cols

pub slice_bounds-decode_into-count : goal.slice_bounds-decode_into-count
slice_bounds-decode_into-count g c = c.requires.column

pub decode_into-requires-clause-widths : goal.decode_into-requires-clause-widths
decode_into-requires-clause-widths g c =
    λ k d inside.
    let wide = c.requires.widths k d inside in
    let part = part_fits c.args.column c.args.block.now c.requires.column in
    omega (arith, wide, part)

pub returns-clause-size : goal.returns-clause-size
returns-clause-size g c =
    ap length (replaced c.args.column c.args.block.now c.decode_into.new.out c.requires.column)
    ∙ replaced-size c.args.column c.args.block.now c.decode_into.new.out c.requires.column c.decode_into.auto.out

pub returns-clause-kept : goal.returns-clause-kept
returns-clause-kept g c =
    ap (take c.args.column) (replaced c.args.column c.args.block.now c.decode_into.new.out c.requires.column)
    ∙ take_at (take c.args.column c.args.block.now) c.decode_into.new.out c.args.column (length-take-le c.args.column c.args.block.now c.requires.column)

pub returns-clause-run : goal.returns-clause-run
returns-clause-run g c =
    let rest = ap (drop c.args.column) (replaced c.args.column c.args.block.now c.decode_into.new.out c.requires.column)
    ∙ drop_at (take c.args.column c.args.block.now) c.decode_into.new.out c.args.column (length-take-le c.args.column c.args.block.now c.requires.column) in
    subst (λ (out : List ℕ). IfOk c.decode_into.result (IsRunOf c.args.kept.now c.args.t c.args.column out)) (sym rest) c.decode_into.ensures.run
