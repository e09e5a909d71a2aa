-- What a hasher holds, piece by piece.
use Rattle.std.proofs.Common.{◌≡◌, ℕ, ◌+◌, ◌<◌, List, [], ◌++◌, length, take, replicate, sym, ap, ◌∙◌}
use Rattle.std.specs.List.{flat_map}
use Rattle.std.proofs.lemmas.List.{append_assoc, flat_map_more, replicate-append-replicate, take_more}
use Rattle.key_table.specs.Entry.{Pair, entry, value_bytes}
use Rattle.key_table.specs.Looked.{pair}
use Rattle.key_table.specs.Places.{pair_at}
use Rattle.key_table.proofs.EntryBytes.{entry-is}

-- more zeros behind zeros
pub zeros_more : (m : List ℕ) (a b whole : ℕ) (zs : List ℕ) → zs ≡ replicate b 0 → a + b ≡ whole → (m ++ replicate a 0) ++ zs ≡ m ++ replicate whole 0
zeros_more m a b whole zs is sum =
    append_assoc m (replicate a 0) zs
    ∙ ap (λ bs. m ++ bs) (ap (λ bs. replicate a 0 ++ bs) is ∙ replicate-append-replicate a b 0 ∙ ap (λ k. replicate k 0) sum)

-- a digest and the bytes of its value are an entry
pub entry_more : (m : List ℕ) (most : ℕ) (digest value : List ℕ) → (m ++ digest) ++ value_bytes most value ≡ m ++ entry most (pair digest value)
entry_more m most digest value =
    append_assoc m digest (value_bytes most value) ∙ ap (λ bs. m ++ bs) (sym (entry-is most (pair digest value)))

-- one more entry behind those before it
pub entries_more : (m : List ℕ) (most : ℕ) (ps : List Pair) (i : ℕ) (x : Pair) → i < length ps → x ≡ pair_at ps i
    → (m ++ flat_map (entry most) (take i ps)) ++ entry most x ≡ m ++ flat_map (entry most) (take (i + 1) ps)
entries_more m most ps i x lt is =
    ap (λ p. (m ++ flat_map (entry most) (take i ps)) ++ entry most p) is
    ∙ flat_map_more (entry most) m (take i ps) (pair_at ps i)
    ∙ ap (λ qs. m ++ flat_map (entry most) qs) (sym (take_more ps i (pair [] []) lt))
