-- Blocks one behind another.
use Rattle.std.proofs.Common.{◌≡◌, ◌∙◌, ℕ, ◌+◌, ◌<◌, ◌≤◌, List, ◌++◌, length, map, take, drop, get_or, sym, ap, arith, length-append, append_assoc}
use Rattle.std.specs.Prelude.{Vec, flat_map}
use Rattle.std.specs.declared.alloc.Global.{Global}
use Rattle.std.proofs.lemmas.List.{length-take-le, take_at}
use Rattle.std.proofs.lemmas.List.Folds.{flat_map-map, length-flat_map-take}
use borrow.Rule.Slice.PartMut.{put_mid}
use Rattle.block_decoder.proofs.TextLines.{flat_map-take_more}
use Rattle.client_calls.specs.Listing.{joined}

-- the blocks of vectors, one behind another
abbrev pub together : List (Vec ℕ Global) → List ℕ
together blocks = flat_map (λ (b : Vec ℕ Global). b.items) blocks

-- they are the listing's where its blocks are theirs
pub joined_is : (blocks : List (Vec ℕ Global)) (listing : List (List ℕ)) → map (λ (b : Vec ℕ Global). b.items) blocks ≡ listing
    → together blocks ≡ joined listing
joined_is blocks listing are =
    sym (flat_map-map (λ (b : List ℕ). b) (λ (b : Vec ℕ Global). b.items) blocks) ∙ ap joined are

module _ (blocks : List (Vec ℕ Global)) (i : ℕ) (block : Vec ℕ Global) (bytes : List ℕ) (inside : i < length blocks)
    (at : block ≡ get_or blocks i block) (bytes_are : bytes ≡ block.items) where
  -- one more block
  pub one_more : together (take (i + 1) blocks) ≡ together (take i blocks) ++ bytes
  one_more =
      flat_map-take_more (λ (b : Vec ℕ Global). b.items) blocks i block inside
      ∙ ap (λ (b : Vec ℕ Global). together (take i blocks) ++ b.items) (sym at)
      ∙ ap (λ (l : List ℕ). together (take i blocks) ++ l) (sym bytes_are)

  -- they have as many bytes more
  pub size_more : (size : ℕ) → size ≡ length (together (take i blocks)) → size + length bytes ≡ length (together (take (i + 1) blocks))
  size_more size is = omega (arith, is, length-append (together (take i blocks)) bytes, ap length one_more)

  -- the block ends within all of them
  pub ends_within : (start len : ℕ) → start ≡ length (together (take i blocks)) → len ≡ length (together blocks) → start + length bytes ≤ len
  ends_within start len is all =
      omega (
        arith,
        is,
        all,
        length-flat_map-take (λ (b : Vec ℕ Global). b.items) blocks i block inside,
        ap (λ (b : Vec ℕ Global). length b.items) at,
        ap length bytes_are,
      )

-- bytes are written behind those before them
pub written_behind : (out row done : List ℕ) (start k end : ℕ) → end ≡ start + length row → end ≤ length out → take start out ≡ done
    → take end (put_mid start k out row) ≡ done ++ row
written_behind out row done start k end is room written =
    let prefix = take start out in
    let rest = drop k (drop start out) in
    let long : length prefix ≡ start = length-take-le start out (omega (arith, is, room)) in
    let both : length (prefix ++ row) ≡ end = length-append prefix row ∙ omega (arith, long, is) in
    ap (take end) (sym (append_assoc prefix row rest))
    ∙ take_at (prefix ++ row) rest end both
    ∙ ap (λ (l : List ℕ). l ++ row) written
