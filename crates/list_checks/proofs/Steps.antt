-- The steps of a check, one behind another.
use Rattle.std.proofs.Common.{◌≡◌, ◌∙◌, inr, ℕ, ◌+◌, ◌*◌, ◌/◌, ◌<◌, ◌≤◌, max, true, List, [], ◌∷◌, ◌++◌, length, take, refl, sym, ap, subst, arith}
use Rattle.std.specs.Prelude.{Result, Ok, Err, IfSome}
use Rattle.std.specs.Result.{IsErrAnd}
use Rattle.std.proofs.Math.Nat.{mul-le-mul_right}
use Rattle.std.proofs.lemmas.List.{length-append, length-take-le}
use Rattle.std.proofs.lemmas.Nat.{div-mul-add}
use Rattle.port_trait.specs.World.{Cell, World}
use Rattle.port_trait.specs.Number.{DATABASE}
use Rattle.port_trait.specs.Moves.{RoseOnce, counted, named, took}
use Rattle.port_trait.specs.Whole.{IsPrefix}
use Rattle.port_trait.proofs.Carried.{reads_after}
use Rattle.port_trait.proofs.Cells.{reads_more}
use Rattle.sha2.specs.Hashers.{Holds256}
use Rattle.sha2.specs.declared.Sha256.{Sha256}
use Rattle.block_matrix.proofs.Pieces.{reads_failed}
use Rattle.block_matrix.specs.Database.{row_at}
use Rattle.key_table.specs.Looked.{IsNoRow}
use Rattle.list_checks.specs.Checks.{AreAll, Checks, Finds, Found, FoundIn, is_read_whole}
use Rattle.list_checks.specs.Claims.{making_of, size_of}
use Rattle.list_checks.specs.Judging.{Judges}
use Rattle.list_checks.specs.Rows.{HasRows, entries_of, fullest_of, tally_of}
use Rattle.list_checks.specs.Steps.{AllRows, EndsHere, HasChecked, JudgesWhole, ReadsRow}
use Rattle.list_checks.specs.declared.checking.Counted.{Counted}
use Rattle.list_checks.specs.declared.claim.Claim.{Claim}
use Rattle.list_checks.specs.declared.tally.Tally.{Tally}
use Rattle.list_checks.specs.declared.fault.CheckFault.{CheckFault}
use Rattle.list_checks.specs.declared.fault.CheckFault.TheVariants.{NoRow, TooShort, TooLong, OtherHash, OtherEntries, ReadFault, Memory}
use Rattle.list_checks.proofs.Reading.{all_read, none_read, reads_all, reads_full, reads_last}
use Rattle.list_checks.proofs.Rows.{row_next, rows_more, rows_still, tally_more}

-- an error that is handed on
pub told : {T : Type 0} (result : Result T CheckFault) (fault : CheckFault) → IsErrAnd result (λ e. e ≡ fault) → result ≡ Err fault
told (Ok x) fault is = absurd is
told (Err e) fault is = ap Err is

-- before the first row nothing is read
pub none_checked : (claim : Claim) (hasher : Sha256) (w : World) → Holds256 hasher [] → HasChecked claim 0 hasher (tally_of []) w w
none_checked claim hasher w hashed = record {
  file = [];
  rows = [];
  size = grind arith;
  count = refl;
  are = record { each = λ j lt. absurd (omega (arith, lt)) };
  reads = none_read w;
  hashed = hashed;
  counted = refl;
}

module _ (claim : Claim) (j : ℕ) (hasher : Sha256) (tally : Tally) (before after : List ℕ) (w v u : World)
    (room : length before ≡ claim.width) (same : length after ≡ length before) (so_far : HasChecked claim j hasher tally w v) where
  -- one row more is read
  pub row_checked : (count : ℕ) (hashed : Sha256) (more : Tally) → ReadsRow claim j (Ok count) before after v u
      → ((m : List ℕ) → Holds256 hasher m → Holds256 hashed (m ++ after))
      → more ≡ record { entries = tally.entries + count; fullest = max tally.fullest count }
      → HasChecked claim (j + 1) hashed more w u
  row_checked count hashed more (hands, judged) hashes counts = record {
    file = so_far.file ++ after;
    rows = so_far.rows ++ judged.0 ∷ [];
    size = let next : (j + 1) * claim.width ≡ j * claim.width + claim.width = grind arith in
        omega (arith, next, length-append so_far.file after, so_far.size, same, room);
    count = omega (arith, length-append so_far.rows (judged.0 ∷ []), so_far.count);
    are = rows_more claim so_far.file so_far.rows so_far.are j after judged.0 so_far.count so_far.size (same ∙ room) judged.1;
    reads = reads_full so_far.file before after w v u same so_far.reads hands;
    hashed = hashes so_far.file so_far.hashed;
    counted = counts
        ∙ ap (λ (t : Tally). record { entries = t.entries + count; fullest = max t.fullest count }) so_far.counted
        ∙ ap (λ (n : ℕ). record { entries = entries_of so_far.rows + n; fullest = max (fullest_of so_far.rows) n }) judged.2
        ∙ sym (tally_more so_far.rows judged.0);
  }

  -- the rows so far, as the file goes on
  rows_before : (more : List ℕ) → HasRows claim j (so_far.file ++ more)
  rows_before more =
      let sized : length so_far.rows * claim.width ≡ length so_far.file = ap (λ n. n * claim.width) so_far.count ∙ sym so_far.size in
      (so_far.rows, so_far.count, rows_still claim so_far.file so_far.rows so_far.are more (omega (arith, sized)))

  -- or it is refused, or a call fails
  pub row_refused : j < claim.rows → (fault : CheckFault) → ReadsRow claim j (Err fault) before after v u → Finds claim (Err fault) w u
  row_refused within (NoRow row) (is, hands, no_row) = record {
    file = so_far.file ++ after;
    reads = reads_full so_far.file before after w v u same so_far.reads hands;
    all = tt;
    judged = record {
      within = subst (λ n. n < claim.rows) (sym is) within;
      size = let next : (j + 1) * claim.width ≡ j * claim.width + claim.width = grind arith in
          let sized : length (so_far.file ++ after) ≡ (j + 1) * claim.width
          = omega (arith, next, length-append so_far.file after, so_far.size, same, room) in
          sized ∙ ap (λ n. (n + 1) * claim.width) (sym is);
      before = subst (λ n. HasRows claim n (so_far.file ++ after)) (sym is) (rows_before after);
      no_row = subst (λ n. IsNoRow (making_of claim) n (row_at claim.width (so_far.file ++ after) n)) (sym is)
          (subst (λ (r : List ℕ). IsNoRow (making_of claim) j r)
          (sym (row_next claim.width j so_far.file after so_far.size (same ∙ room))) no_row);
    };
  }
  row_refused within (TooShort bytes) (filled, is, ends) =
      let file = so_far.file ++ take filled after in
      let next : (j + 1) * claim.width ≡ j * claim.width + claim.width = grind arith in
      let most : (j + 1) * claim.width ≤ claim.rows * claim.width = mul-le-mul_right claim.width (omega (arith, within)) in
      let fewer : filled < claim.width = omega (arith, ends.fewer, room) in
      let whole : bytes / claim.width ≡ j = ap (λ n. n / claim.width) is ∙ div-mul-add j claim.width filled fewer in
      record {
        file = file;
        reads = reads_last so_far.file before after w v u same so_far.reads filled ends;
        all = reads_all so_far.file before after w v u same so_far.reads filled ends;
        judged = record {
          size = omega (arith, length-append so_far.file (take filled after), length-take-le filled after (omega (arith, ends.fewer, same)), so_far.size, is);
          fewer = omega (arith, is, fewer, next, most);
          before = subst (λ n. HasRows claim n file) (sym whole) (rows_before (take filled after));
        };
      }
  row_refused within TooLong found = absurd found
  row_refused within OtherHash found = absurd found
  row_refused within (OtherEntries entries) found = absurd found
  row_refused within ReadFault found =
      let next : (j + 1) * claim.width ≡ j * claim.width + claim.width = grind arith in
      let most : (j + 1) * claim.width ≤ claim.rows * claim.width = mul-le-mul_right claim.width (omega (arith, within)) in
      reads_failed (size_of claim + 1) (length before) so_far.file w v u (omega (arith, room, so_far.size, next, most)) so_far.reads found
  row_refused within Memory found = absurd found

-- all rows are read and are rows of the list's table
module _ (claim : Claim) (came : Counted) (w v u : World) (all : AllRows claim came w v) where
  -- more bytes come behind them, or a call fails
  pub more_refused : (fault : CheckFault) → EndsHere (Err fault) v u → Finds claim (Err fault) w u
  more_refused TooLong found =
      let before = found.0 in
      let after = found.1 in
      let hands = found.3 in
      let table = all.is_table in
      let sized : length all.rows * claim.width ≡ length all.file = ap (λ n. n * claim.width) table.count ∙ sym table.size in
      let one : length (take 1 after) ≡ 1 = length-take-le 1 after (omega (arith, hands.fits, found.2)) in
      record {
        file = all.file ++ take 1 after;
        reads = reads_more DATABASE 1 all.file before after w v u found.2 all.reads hands;
        all = tt;
        judged = record {
          size = omega (arith, length-append all.file (take 1 after), table.size, one);
          before = (all.rows, table.count, rows_still claim all.file all.rows table.are (take 1 after) (omega (arith, sized)));
        };
      }
  more_refused ReadFault found =
      reads_failed (size_of claim + 1) 1 all.file w v u (omega (arith, all.is_table.size)) all.reads found
  more_refused (NoRow row) found = absurd found
  more_refused (TooShort bytes) found = absurd found
  more_refused OtherHash found = absurd found
  more_refused (OtherEntries entries) found = absurd found
  more_refused Memory found = absurd found

  -- nothing comes behind them, and what they came to is judged
  module _ (still : u.at DATABASE ≡ v.at DATABASE) (none : IfSome (v.at DATABASE).holds (λ h. h ≡ [])) where
    found_whole : (result : Result Tally CheckFault) → is_read_whole result ≡ true → Judges claim result all.file → Found claim result w u
    found_whole result whole judged = record {
      file = all.file;
      reads = reads_after DATABASE w v u still all.file all.reads;
      all = subst (λ b. AreAll b all.file (w.at DATABASE).holds) (sym whole) (all_read all.file w v all.reads none);
      judged = judged;
    }

    pub whole_judged : (result : Result Tally CheckFault) → JudgesWhole claim came result → Finds claim result w u
    whole_judged (Ok tally) (same, hash, entries) = found_whole (Ok tally) refl record {
      rows = all.rows;
      is_table = all.is_table;
      hash = sym all.hash ∙ hash;
      entries = sym (ap (λ (t : Tally). t.entries) all.tally) ∙ entries;
      counted = same ∙ all.tally;
    }
    whole_judged (Err OtherHash) other = found_whole (Err OtherHash) refl record {
      rows = all.rows;
      is_table = all.is_table;
      other = λ is. other (all.hash ∙ is);
    }
    whole_judged (Err (OtherEntries entries)) (is, other, hash) = found_whole (Err (OtherEntries entries)) refl record {
      rows = all.rows;
      is_table = all.is_table;
      hash = sym all.hash ∙ hash;
      is = is ∙ ap (λ (t : Tally). t.entries) all.tally;
      other = other;
    }
    whole_judged (Err (NoRow row)) found = absurd found
    whole_judged (Err (TooShort bytes)) found = absurd found
    whole_judged (Err TooLong) found = absurd found
    whole_judged (Err ReadFault) found = absurd found
    whole_judged (Err Memory) found = absurd found

-- the file was opened by a name, and then checked
module _ (claim : Claim) (name : List ℕ) (w v u : World) (opened : v.at DATABASE ≡ named name (w.at DATABASE)) where
  found_in : (result : Result Tally CheckFault) → Found claim result v u → FoundIn name claim result (w.at DATABASE) (u.at DATABASE)
  found_in result found = record {
    file = found.file;
    cell = found.reads.cell ∙ ap (took (length found.file)) opened;
    held = subst (λ (c : Cell). IfSome c.holds (IsPrefix found.file)) opened found.reads.told;
    all = subst (λ (c : Cell). AreAll (is_read_whole result) found.file c.holds) opened found.all;
    judged = found.judged;
  }

  pub opened_checks : (result : Result Tally CheckFault) → Finds claim result v u → Checks claim name result w u
  opened_checks (Ok tally) found = found_in (Ok tally) found
  opened_checks (Err (NoRow row)) found = found_in (Err (NoRow row)) found
  opened_checks (Err (TooShort bytes)) found = found_in (Err (TooShort bytes)) found
  opened_checks (Err TooLong) found = found_in (Err TooLong) found
  opened_checks (Err OtherHash) found = found_in (Err OtherHash) found
  opened_checks (Err (OtherEntries entries)) found = found_in (Err (OtherEntries entries)) found
  opened_checks (Err ReadFault) cut = record {
    n = cut.after.n;
    fewer = cut.fewer;
    cell = inr (cut.after.cell ∙ ap (λ (c : Cell). counted (u.at DATABASE).faults (took cut.after.n c)) opened);
    rose = subst (λ (c : Cell). RoseOnce c.faults (u.at DATABASE).faults) opened cut.after.rose;
  }
  opened_checks (Err Memory) found = absurd found
