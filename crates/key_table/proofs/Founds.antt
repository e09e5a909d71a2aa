-- The row that bytes are, by the entries that are found in them.
use Rattle.std.proofs.Common.{◌≡◌, ◌≤◌, ◌<◌, ◌*◌, ◌/◌, ℕ, List, length, sym, ap, ap₂, ◌∙◌, arith, mul_comm, mul-div_cancel}
use Rattle.std.specs.List.{flat_map}
use Rattle.key_table.specs.Entry.{Pair, entry, entry_size}
use Rattle.key_table.specs.Table.{AreEntries, IsFrame, IsRowOf, Making, framed}
use Rattle.key_table.specs.Looked.{HasEntries}
use Rattle.key_table.proofs.EntryBytes.{length-entries, sizes_of_pairs}
use Rattle.key_table.proofs.Frames.{frame_unique}
use Rattle.key_table.proofs.Law.{few_pairs}

-- the row of pairs has their entries
pub frame_of_row : (m : Making) (j : ℕ) (row : List ℕ) (pairs : List Pair) → 1 ≤ m.size → length row ≤ 65536 → IsRowOf m j row pairs
    → IsFrame m.tag (entry_size m.size m.most) row (length pairs) (flat_map (entry m.most) pairs)
frame_of_row m j row pairs some short h = record {
  size = length-entries m.size m.most pairs (sizes_of_pairs m.size m.most pairs h.may.each);
  few = few_pairs m.size m.most (length pairs) (length row) some h.fits short;
  fits = omega (arith, h.fits, mul_comm (entry_size m.size m.most) (length pairs));
  is = h.is;
}

-- where the bytes are the row of pairs, the entries that are found in it are theirs
pub entries-from : (m : Making) (j : ℕ) (row : List ℕ) (n : ℕ) (entries : List ℕ) → length m.tag ≡ 8 → 1 ≤ m.size → length row ≤ 65536
    → IsFrame m.tag (entry_size m.size m.most) row n entries → (pairs : List Pair) → IsRowOf m j row pairs → AreEntries m.size m.most m.rows j entries
entries-from m j row n entries eight some short frame pairs h =
    let own = frame_of_row m j row pairs some short h in
    record {
      pairs = pairs;
      may = h.may;
      is = (frame_unique m.tag (entry_size m.size m.most) row n entries (length pairs) (flat_map (entry m.most) pairs) eight frame own).1;
    }

-- where the entries that are found in a row are those of pairs that may stand there, it is theirs
pub IsRowOf-from : (m : Making) (j : ℕ) (row : List ℕ) (n : ℕ) (entries : List ℕ) → 1 ≤ m.size
    → IsFrame m.tag (entry_size m.size m.most) row n entries → (a : AreEntries m.size m.most m.rows j entries) → IsRowOf m j row a.pairs
IsRowOf-from m j row n entries some frame a =
    let e = entry_size m.size m.most in
    let lengths : n * e ≡ length a.pairs * e = sym frame.size ∙ ap length a.is ∙ length-entries m.size m.most a.pairs (sizes_of_pairs m.size m.most a.pairs a.may.each) in
    let count : n ≡ length a.pairs = times_same n (length a.pairs) e (omega (arith, some)) lengths in
    record {
      may = a.may;
      fits = omega (arith, frame.fits, lengths, mul_comm e (length a.pairs));
      is = frame.is ∙ ap₂ (λ k bs. framed (length row) m.tag k bs) count a.is;
    }
  where
    times_same : (a b k : ℕ) → 0 < k → a * k ≡ b * k → a ≡ b
    times_same a b k pos same = sym (mul-div_cancel a pos) ∙ ap (λ n. n / k) same ∙ mul-div_cancel b pos

-- so many entries are found in a row, where it has the entries of so many pairs
pub count_from_bytes : (m : Making) (j : ℕ) (row entries : List ℕ) → 1 ≤ m.size → (h : HasEntries m j row entries)
    → length entries / entry_size m.size m.most ≡ length h.0
count_from_bytes m j row entries some h =
    let e = entry_size m.size m.most in
    let pos : 0 < e = omega (arith, some) in
    ap (λ k. k / e) (ap length h.2 ∙ length-entries m.size m.most h.0 (sizes_of_pairs m.size m.most h.0 h.1.may.each)) ∙ mul-div_cancel (length h.0) pos
