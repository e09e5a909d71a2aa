use Rattle.std.proofs.Common.{◌≡◌, ◌∙◌, true, false, ℕ, ◌<◌, List, [], ◌∷◌, ◌++◌, length, ap, sym, subst, arith}
use Rattle.std.specs.Bool.{◌==◌}
use Rattle.std.proofs.lemmas.List.{append-nil}
use Rattle.std.proofs.lemmas.Result.{err_from_is_err_and}
use Rattle.block_decoder.specs.Text.{text}
use Rattle.port_trait.specs.Number.{OUTPUT}
use Rattle.port_trait.specs.Moves.{gave}
use Rattle.port_trait.proofs.Cells.{touches_more, fails_first}
use Rattle.port_trait.proofs.Pieces.{written_both, written_next}
use Rattle.commands.proofs.selfrun_command.write_report.Goals as goal

-- nothing follows
with_nothing : (a b : List ℕ) → true ≡ (length b == 0) → a ≡ a ++ b
with_nothing a [] e = sym (append-nil a)
with_nothing a (x ∷ xs) e = grind arith

-- something does
is_some : (b : List ℕ) → false ≡ (length b == 0) → 0 < length b
is_some [] e = absurd cc
is_some (x ∷ xs) e = omega arith

pub returns-clause-written : goal.returns-clause-written
returns-clause-written g c =
    let between = g.P.Ports.world c.write_verdict.new.ports in
    let after = g.P.Ports.world c.write_all.new.ports in
    let end = written_both 1 c.as_bytes.result.now c.write_all.result between after c.write_all.ensures.ok c.write_all.ensures.failed in
    rw (← c.as_bytes.ensures.value) (written_next 1 (text c.args.verdict.now) c.as_bytes.result.now c.write_all.result _ between after c.in_ok-write_verdict.ensures.written end)

pub returns-in_err-write_verdict-clause-written : goal.returns-in_err-write_verdict-clause-written
returns-in_err-write_verdict-clause-written g c =
    let p = err_from_is_err_and c.from_residual.result c.from_residual.ensures.1 in
    rw p.1 (fails_first 1 (text c.args.verdict.now) _ _ _ c.in_err-write_verdict.ensures.written)

pub returns-in_err-write_verdict-clause-others : goal.returns-in_err-write_verdict-clause-others
returns-in_err-write_verdict-clause-others g c = c.in_err-write_verdict.ensures.others

pub returns-then-is_empty-clause-others : goal.returns-then-is_empty-clause-others
returns-then-is_empty-clause-others g c = c.in_ok-write_verdict.ensures.others

pub returns-clause-others : goal.returns-clause-others
returns-clause-others g c = touches_more _ _ _ _ c.in_ok-write_verdict.ensures.others c.write_all.ensures.others

pub returns-then-is_empty-clause-written : goal.returns-then-is_empty-clause-written
returns-then-is_empty-clause-written g c =
    c.in_ok-write_verdict.ensures.written ∙ ap (λ (l : List ℕ). gave l ((g.P.Ports.world c.args.ports.now).at OUTPUT)) (with_nothing _ _ c.if-is_empty.ensures)

pub write_all-requires : goal.write_all-requires
write_all-requires g c = subst (λ (l : List ℕ). 0 < length l) (sym c.as_bytes.ensures.value) (is_some _ c.if-is_empty.ensures)
