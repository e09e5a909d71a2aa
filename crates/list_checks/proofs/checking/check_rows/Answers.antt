use Rattle.std.proofs.Common.{◌≡◌, ◌∙◌, ◌*◌, refl, sym, ap, subst, arith}
use Rattle.std.specs.Prelude.{Result}
use Rattle.port_trait.proofs.Cells.{touches_more}
use Rattle.list_checks.specs.Steps.{ChecksRows}
use Rattle.list_checks.specs.declared.checking.Counted.{Counted}
use Rattle.list_checks.specs.declared.fault.CheckFault.{CheckFault}
use Rattle.list_checks.specs.declared.tally.Tally.{Tally}
use Rattle.list_checks.proofs.Steps.{none_checked, row_checked, row_refused, told}
use Rattle.list_checks.proofs.checking.check_rows.Goals as goal

pub rows-init : goal.rows-init
rows-init g c =
    let w = g.P.Ports.world c.args.ports.now in
    record {
      room = c.requires.room;
      few = omega arith;
      checked = none_checked c.args.claim.now c.new-hasher.result w c.new-hasher.ensures;
      others = record { others = λ q l off. refl; crowd = refl; started = refl };
    }

pub returns-in_err-count-clause-checks : goal.returns-in_err-count-clause-checks
returns-in_err-count-clause-checks g c =
    let w = g.P.Ports.world c.args.ports.now in
    let v = g.P.Ports.world c.rows.ports in
    let u = g.P.Ports.world c.read_row.new.ports in
    let fault = c.in_err-count.field-0.0 in
    subst (λ (r : Result Counted CheckFault). ChecksRows c.args.claim.now r w u)
    (sym (told c.from_residual.result fault c.from_residual.ensures.1))
    (row_refused c.args.claim.now c.rows.row c.rows.hasher c.rows.tally c.rows.room c.read_row.new.room w v u
    c.rows.invariant.room c.read_row.auto.room c.rows.invariant.checked c.rows-test.true fault c.in_err-count.ensures.reads)

pub returns-in_err-count-clause-others : goal.returns-in_err-count-clause-others
returns-in_err-count-clause-others g c = touches_more _ _ _ _ c.rows.invariant.others c.read_row.ensures.others

pub rows-preserved : goal.rows-preserved
rows-preserved g c =
    let w = g.P.Ports.world c.args.ports.now in
    let v = g.P.Ports.world c.rows.ports in
    let u = g.P.Ports.world c.read_row.new.ports in
    let entries = ap (λ (t : Tally). t.entries) c.with_row-tally.ensures in
    record {
      room = c.read_row.auto.room ∙ c.rows.invariant.room;
      few = omega (arith, entries, c.rows.invariant.few, c.in_ok-count.ensures.few);
      checked = row_checked c.args.claim.now c.rows.row c.rows.hasher c.rows.tally c.rows.room c.read_row.new.room w v u
          c.rows.invariant.room c.read_row.auto.room c.rows.invariant.checked c.in_ok-count.count c.update.new.self
          c.with_row-tally.result c.in_ok-count.ensures.reads c.update.ensures c.with_row-tally.ensures;
      others = touches_more _ _ _ _ c.rows.invariant.others c.read_row.ensures.others;
    }

pub returns-clause-checks : goal.returns-clause-checks
returns-clause-checks g c =
    let checked = c.rows.invariant.checked in
    let last : c.rows.row ≡ c.args.claim.now.rows = omega (arith, c.rows-test.false, c.rows.auto.row-end) in
    record {
      file = checked.file;
      rows = checked.rows;
      is_table = record {
        size = checked.size ∙ ap (λ n. n * c.args.claim.now.width) last;
        count = checked.count ∙ last;
        are = checked.are;
      };
      reads = checked.reads;
      hash = c.finalize.ensures checked.file checked.hashed;
      tally = checked.counted;
    }
