-- Reading the port of the database piece by piece, into bytes that grow.
use Rattle.std.proofs.Common.{◌≡◌, ◌∙◌, ℕ, ◌+◌, ◌≤◌, List, [], ◌++◌, length, take, drop, sym, ap, subst, arith, append-nil}
use Rattle.std.specs.Prelude.{Option, Some, None, IfSome}
use Rattle.std.specs.Option.{option_map}
use Rattle.std.proofs.Math.Seq.{take-add}
use Rattle.std.proofs.lemmas.List.{take_all, drop_all, length-take-le, length-drop}
use Rattle.port_trait.specs.World.{Cell, World}
use Rattle.port_trait.specs.Number.{DATABASE}
use Rattle.port_trait.specs.Moves.{Hands, took, counted, RoseOnce}
use Rattle.port_trait.specs.Whole.{Reads, IsPrefix, Ends, FailsShort}
use Rattle.port_trait.proofs.Cells.{reads_more, took-took}
use Rattle.block_matrix.specs.Loading.{ReadsUpTo}

-- the bytes behind a slice that is all of a list
pub whole_again : (len : ℕ) (all bytes : List ℕ) → length all ≡ len → length bytes ≡ len → take len (all ++ drop (length all) bytes) ≡ all
whole_again len all bytes same size =
    let rest : drop (length all) bytes ≡ [] = drop_all (length all) bytes (omega (arith, same, size)) in
    ap (λ (l : List ℕ). take len (all ++ l)) rest ∙ ap (take len) (append-nil all) ∙ take_all len all (omega (arith, same))

module _ (n : ℕ) (read before after : List ℕ) (w v u : World) (kept : take (length read) before ≡ read) (still : take (length read) after ≡ take (length read) before)
    (same : length after ≡ length before) (so_far : Reads DATABASE read w v) (hands : Hands DATABASE n (drop (length read) before) (drop (length read) after) v u) where
  -- n bytes more are read, behind those that were
  pub reads_piece : Reads DATABASE (take (length read + n) after) w u
  reads_piece =
      let rests : length (drop (length read) after) ≡ length (drop (length read) before) = omega (arith, length-drop (length read) after, length-drop (length read) before, same) in
      subst (λ (l : List ℕ). Reads DATABASE l w u) (ap (λ (l : List ℕ). l ++ take n (drop (length read) after)) (sym (still ∙ kept)) ∙ sym (take-add (length read) n after))
      (reads_more DATABASE n read (drop (length read) before) (drop (length read) after) w v u rests so_far hands)

  -- as many bytes as there was room for
  pub reads_full : n ≡ length (drop (length read) before) → Reads DATABASE after w u
  reads_full full =
      subst (λ (l : List ℕ). Reads DATABASE l w u) (take_all (length read + n) after (omega (arith, full, length-drop (length read) before, same))) reads_piece

-- what was read is as long as what was held: it is all of that
all_read : (n : ℕ) (first read : List ℕ) (o o1 : Option (List ℕ)) → o1 ≡ option_map (drop (length first)) o → IfSome o (IsPrefix first) → IfSome o (IsPrefix read) → length read ≡ length first + n
    → IfSome o1 (λ h. length h ≡ n) → IfSome o (λ h. read ≡ h)
all_read n first read None o1 is a b size ends = tt
all_read n first read (Some h) o1 is a b size ends =
    let left : length (drop (length first) h) ≡ n = subst (λ (x : Option (List ℕ)). IfSome x (λ l. length l ≡ n)) is ends in
    b.bytes ∙ take_all (length read) h (omega (arith, size, left, a.there, length-drop (length first) h))

-- the port ended within a piece
pub reads_ended : (most n : ℕ) (read before after : List ℕ) (w v u : World) → take (length read) before ≡ read
    → take (length read) after ≡ take (length read) before → length after ≡ length before → length before ≤ most
    → Reads DATABASE read w v → Ends DATABASE n (drop (length read) before) (drop (length read) after) v u → ReadsUpTo most (take (length read + n) after) w u
reads_ended most n read before after w v u kept still same few so_far ends =
    let reads = reads_piece n read before after w v u kept still same so_far ends.hands in
    let size : length (take (length read + n) after) ≡ length read + n = length-take-le (length read + n) after (omega (arith, ends.fewer, length-drop (length read) before, same)) in
    record {
      reads = reads;
      within = omega (arith, size, ends.fewer, length-drop (length read) before, few);
      ended = λ _. all_read n read (take (length read + n) after) (w.at DATABASE).holds (v.at DATABASE).holds (ap (λ (c : Cell). c.holds) so_far.cell) so_far.told reads.told size ends.all;
    }

-- more was held than was read
held_more : (n : ℕ) (read : List ℕ) (o o1 : Option (List ℕ)) → o1 ≡ option_map (drop (length read)) o → IfSome o (IsPrefix read)
    → IfSome o1 (λ h. n ≤ length h) → IfSome o (λ h. length read + n ≤ length h)
held_more n read None o1 is a more = tt
held_more n read (Some h) o1 is a more =
    let left : n ≤ length (drop (length read) h) = subst (λ (x : Option (List ℕ)). IfSome x (λ l. n ≤ length l)) is more in
    omega (arith, left, a.there, length-drop (length read) h)

-- a call on the port failed within a piece
pub reads_failed : (most room : ℕ) (read : List ℕ) (w v u : World) → length read + room ≤ most → Reads DATABASE read w v
    → FailsShort DATABASE room v u → FailsShort DATABASE most w u
reads_failed most room read w v u within so_far fails =
    let after = fails.after in
    let before = ap (λ (c : Cell). c.holds) so_far.cell in
    record {
      after = record {
        n = length read + after.n;
        cell = after.cell
            ∙ ap (λ (c : Cell). counted (u.at DATABASE).faults (took after.n c)) so_far.cell
            ∙ ap (counted (u.at DATABASE).faults) (took-took after.n (length read) (w.at DATABASE));
        held = held_more after.n read (w.at DATABASE).holds (v.at DATABASE).holds before so_far.told after.held;
        rose = subst (λ (f : ℕ). RoseOnce f (u.at DATABASE).faults) (ap (λ (c : Cell). c.faults) so_far.cell) after.rose;
      };
      fewer = omega (arith, within, fails.fewer);
    }
