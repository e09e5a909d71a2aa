use Rattle.std.proofs.Common.{rules, ◌≡◌, ◌∙◌, ℕ, ◌+◌, List, ◌++◌, Result, Ok, Err, refl, sym, ap, subst, arith}
use Rattle.std.specs.List.{concat}
use Rattle.std.specs.Result.{IsErrAnd}
use Rattle.port_trait.specs.World.{World}
use Rattle.port_trait.specs.Number.{RECORD}
use Rattle.port_trait.specs.Moves.{gave}
use Rattle.port_trait.specs.Whole.{FailsWithin}
use Rattle.port_trait.specs.declared.port.Failed.{Failed}
use Rattle.port_trait.proofs.Cells.{touches_more}
use Rattle.sha2.specs.Hashers.{Holds256}
use Rattle.key_table.specs.Rows.{Rows, row_bytes}
use Rattle.list_builds.specs.TableBytes.{WritesRows, first_rows, table_of}
use Rattle.list_builds.proofs.TableBytes.{no_row_given, no_rows, row_cut, row_given, rows_next}
use Rattle.list_builds.proofs.table.write_rows.Goals as goal

-- what is cut short is an error
cut_short : (rows : List (List ℕ)) (r : Result (List ℕ) Failed) (Q : Failed → Type 0) (w u : World)
    → IsErrAnd r Q → FailsWithin RECORD (concat rows) w u → WritesRows rows r w u
cut_short rows (Ok hash) Q w u is cut = absurd is
cut_short rows (Err failed) Q w u is cut = cut

pub rows-init : goal.rows-init
rows-init g c = record {
  table = ap (λ (n : ℕ). record c.args.table.now { next = n }) c.requires.start;
  room = refl;
  so_far = no_row_given (row_bytes c.args.table.now) RECORD (g.P.Ports.world c.args.ports.now);
  hashed = subst (λ (m : List ℕ). Holds256 c.new-hasher.result m) (sym (no_rows (row_bytes c.args.table.now))) c.new-hasher.ensures;
  others = search rules;
}

pub returns-in_err-write_all-clause-writes : goal.returns-in_err-write_all-clause-writes
returns-in_err-write_all-clause-writes g c =
    let w = g.P.Ports.world c.args.ports.now in
    let v = g.P.Ports.world c.rows.ports in
    let u = g.P.Ports.world c.write_all.new.ports in
    let row = row_bytes c.args.table.now in
    let n = c.rows._row in
    let made : c.next_row.new.out ≡ row n = c.next_row.ensures.row ∙ ap (λ (t : Rows). row_bytes t t.next) c.rows.invariant.table in
    cut_short (table_of c.args.table.now) c.from_residual.result _ w u c.from_residual.ensures.1
    (row_cut row RECORD n c.args.table.now.rows w v u c.rows.invariant.so_far (omega (arith, c.rows-test.true, c.requires.rows))
    (subst (λ (bytes : List ℕ). FailsWithin RECORD bytes v u) made c.in_err-write_all.ensures.failed))

pub rows-preserved : goal.rows-preserved
rows-preserved g c =
    let w = g.P.Ports.world c.args.ports.now in
    let v = g.P.Ports.world c.rows.ports in
    let u = g.P.Ports.world c.write_all.new.ports in
    let row = row_bytes c.args.table.now in
    let n = c.rows._row in
    let made : c.next_row.new.out ≡ row n = c.next_row.ensures.row ∙ ap (λ (t : Rows). row_bytes t t.next) c.rows.invariant.table in
    let whole : concat (first_rows row n) ++ c.next_row.new.out ≡ concat (first_rows row (n + 1))
    = ap (λ (bytes : List ℕ). concat (first_rows row n) ++ bytes) made ∙ sym (rows_next row n) in
    record {
      table = c.next_row.ensures.next ∙ ap (λ (t : Rows). record t { next = t.next + 1 }) c.rows.invariant.table;
      room = c.next_row.auto.out ∙ c.rows.invariant.room;
      so_far = row_given row RECORD n c.args.table.now.rows w v u c.rows.invariant.so_far
          (c.in_ok-write_all.ensures.ok ∙ ap (λ (bytes : List ℕ). gave bytes (v.at RECORD)) made);
      hashed = subst (λ (m : List ℕ). Holds256 c.update.new.self m) whole (c.update.ensures (concat (first_rows row n)) c.rows.invariant.hashed);
      others = touches_more _ _ _ _ c.rows.invariant.others c.write_all.ensures.others;
    }
