use Rattle.std.proofs.Common.{◌≡◌, ◌<◌, ◌≤◌, length, map, take, All}
use Rattle.list_finds.specs.Known.{row_in}
use Rattle.list_finds.proofs.cuts.write_rows.Given as goal

abbrev pub invariant-loop-place : goal.invariant-loop-place
invariant-loop-place l = record {
  size : length l.out ≡ length l.keys;
  done : take l.place l.out ≡ map (λ k. row_in l.list l.rows k.now) (take l.place l.keys);
  within : 1 ≤ l.rows → All (λ row. row < l.rows) (take l.place l.out);
}
