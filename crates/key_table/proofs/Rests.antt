-- What is left of a row's entries while they are read one by one.
use Rattle.std.proofs.Common.{◌≡◌, ◌≢◌, ℕ, ◌<◌, ◌≤◌, List, [], ◌∷◌, ◌++◌, length, take, drop, map, All, Contains, sym, ap, ap₂, subst, ◌∙◌, arith, take_at, drop_at, inl, inr}
use Rattle.std.specs.List.{flat_map}
use Rattle.std.proofs.lemmas.List.{length-append, take-append-drop}
use Rattle.std.proofs.lemmas.List.Elements.{All-head, All-tail, All-cons, All-nil, All-map, All-weaker}
use Rattle.key_table.specs.Digest.{row_of}
use Rattle.key_table.specs.Entry.{Pair, IsPair, entry, entry_size}
use Rattle.key_table.specs.KeyList.{Ascend}
use Rattle.key_table.specs.Table.{AreEntries, Follows}
use Rattle.key_table.specs.Looked.{LacksDigest, pair}
use Rattle.key_table.proofs.EntryBytes.{length-entry, entry-front, sizes_of_pair}
use Rattle.key_table.proofs.Members.{Contains-cases, Contains-here, Contains-none, Contains-there}
use Rattle.key_table.proofs.Order.{Ascend-more, Ascend-first, Ascend-rest, Ascend-one, Ascend-empty}

-- the bytes are the entries of pairs that may stand in the row behind one with the digest `last`
pub record Left (size most rows j : ℕ) (last rest : List ℕ) : Type 0 where
  pub pairs : List Pair
  pub each : All (IsPair size most) pairs
  pub ascend : Ascend (last ∷ map (λ p. p.digest) pairs)
  pub placed : All (λ p. row_of rows p.digest ≡ j) pairs
  pub is : rest ≡ flat_map (entry most) pairs

-- all entries are left at the start
pub Left-whole : (size most rows j : ℕ) (bytes : List ℕ) → 1 ≤ size → AreEntries size most rows j bytes → Left size most rows j [] bytes
Left-whole size most rows j bytes some h = record {
  pairs = h.pairs;
  each = h.may.each;
  ascend = Ascend-empty (map (λ p. p.digest) h.pairs)
      (All-map (λ (d : List ℕ). 0 < length d) (λ (p : Pair). p.digest) h.pairs
      (All-weaker (IsPair size most) (λ p. 0 < length p.digest) (λ p is. omega (arith, is.digest_size, some)) h.pairs h.may.each))
      h.may.ascend;
  placed = h.may.placed;
  is = h.is;
}

-- what is left at the start are all entries
pub whole-from_Left : (size most rows j : ℕ) (bytes : List ℕ) → Left size most rows j [] bytes → AreEntries size most rows j bytes
whole-from_Left size most rows j bytes h = record {
  pairs = h.pairs;
  may = record { each = h.each; ascend = Ascend-rest [] (map (λ p. p.digest) h.pairs) h.ascend; placed = h.placed };
  is = h.is;
}

-- no entry is left at the end
pub Left-none : (size most rows j : ℕ) (last rest : List ℕ) → rest ≡ [] → Left size most rows j last rest
Left-none size most rows j last rest is = record {
  pairs = [];
  each = All-nil (IsPair size most);
  ascend = Ascend-one last;
  placed = All-nil (λ p. row_of rows p.digest ≡ j);
  is = is;
}

-- too few bytes for an entry are none
pub Left-short : (size most rows j : ℕ) (last rest : List ℕ) → Left size most rows j last rest → length rest < entry_size size most → rest ≡ []
Left-short size most rows j last rest h short = by h.pairs h.each h.is
  where
    by : (ps : List Pair) → All (IsPair size most) ps → rest ≡ flat_map (entry most) ps → rest ≡ []
    by [] all is = is
    by (p ∷ ps) all is =
        absurd (omega (
          arith,
          ap length is,
          length-append (entry most p) (flat_map (entry most) ps),
          length-entry size most p (sizes_of_pair size most p (All-head (IsPair size most) p ps all)),
          short,
        ))

-- the first entry that is left, and what is left behind it
pub record Step (size most rows j : ℕ) (last rest : List ℕ) : Type 0 where
  pub p : Pair
  pub follows : Follows size most rows j last (take (entry_size size most) rest) p
  pub behind : Left size most rows j (take size (take (entry_size size most) rest)) (drop (entry_size size most) rest)

-- enough bytes for an entry begin with one
pub Left-step : (size most rows j : ℕ) (last rest : List ℕ) → 1 ≤ size → Left size most rows j last rest → entry_size size most ≤ length rest
    → Step size most rows j last rest
Left-step size most rows j last rest some h enough = by h.pairs h.each h.ascend h.placed h.is
  where
    step : ℕ
    step = entry_size size most

    by : (ps : List Pair) → All (IsPair size most) ps → Ascend (last ∷ map (λ p. p.digest) ps) → All (λ p. row_of rows p.digest ≡ j) ps
        → rest ≡ flat_map (entry most) ps → Step size most rows j last rest
    by [] all ascend placed is = absurd (omega (arith, ap length is, enough, some))
    by (p ∷ ps) all ascend placed is =
        let ip = All-head (IsPair size most) p ps all in
        let long = length-entry size most p (sizes_of_pair size most p ip) in
        let first : take step rest ≡ entry most p = ap (take step) is ∙ take_at (entry most p) (flat_map (entry most) ps) step long in
        let front : take size (take step rest) ≡ p.digest = ap (take size) first ∙ entry-front size most p ip in
        record {
          p = p;
          follows = record {
            is_pair = ip;
            is_entry = first;
            above = Ascend-first last p.digest (map (λ p. p.digest) ps) ascend;
            placed = All-head (λ p. row_of rows p.digest ≡ j) p ps placed;
          };
          behind = record {
            pairs = ps;
            each = All-tail (IsPair size most) p ps all;
            ascend = subst (λ d. Ascend (d ∷ map (λ p. p.digest) ps)) (sym front) (Ascend-rest last (p.digest ∷ map (λ p. p.digest) ps) ascend);
            placed = All-tail (λ p. row_of rows p.digest ≡ j) p ps placed;
            is = ap (drop step) is ∙ drop_at (entry most p) (flat_map (entry most) ps) step long;
          };
        }

-- an entry before those that are left
pub Left-more : (size most rows j : ℕ) (last rest : List ℕ) (p : Pair) → Follows size most rows j last (take (entry_size size most) rest) p
    → Left size most rows j (take size (take (entry_size size most) rest)) (drop (entry_size size most) rest)
    → Left size most rows j last rest
Left-more size most rows j last rest p f h =
    let step = entry_size size most in
    let front : take size (take step rest) ≡ p.digest = ap (take size) f.is_entry ∙ entry-front size most p f.is_pair in
    record {
      pairs = p ∷ h.pairs;
      each = All-cons (IsPair size most) p h.pairs f.is_pair h.each;
      ascend = Ascend-more last p.digest (map (λ p. p.digest) h.pairs) f.above (subst (λ d. Ascend (d ∷ map (λ p. p.digest) h.pairs)) front h.ascend);
      placed = All-cons (λ p. row_of rows p.digest ≡ j) p h.pairs f.placed h.placed;
      is = sym (take-append-drop step rest) ∙ ap₂ (λ x y. x ++ y) f.is_entry h.is;
    }

-- the rest are the entries of pairs, and the values that stand with the digest among all stand with it there
pub record Sought (size most : ℕ) (digest rest : List ℕ) (all : List Pair) : Type 0 where
  pub pairs : List Pair
  pub each : All (IsPair size most) pairs
  pub is : rest ≡ flat_map (entry most) pairs
  pub still : (value : List ℕ) → Contains all (pair digest value) → Contains pairs (pair digest value)
  pub from : (value : List ℕ) → Contains pairs (pair digest value) → Contains all (pair digest value)

-- the first pair of the rest, and the others
pub record Ahead (size most : ℕ) (digest rest : List ℕ) (all : List Pair) : Type 0 where
  pub p : Pair
  pub is_pair : IsPair size most p
  pub is_entry : take (entry_size size most) rest ≡ entry most p
  pub among : (value : List ℕ) → p ≡ pair digest value → Contains all (pair digest value)
  pub behind : (p.digest ≢ digest) → Sought size most digest (drop (entry_size size most) rest) all

-- all are the rest at the start
pub Sought-whole : (size most : ℕ) (digest bytes : List ℕ) (all : List Pair) → All (IsPair size most) all → bytes ≡ flat_map (entry most) all
    → Sought size most digest bytes all
Sought-whole size most digest bytes all each is = record { pairs = all; each = each; is = is; still = λ value h. h; from = λ value h. h }

-- enough bytes for an entry begin with one
pub Sought-ahead : (size most : ℕ) (digest rest : List ℕ) (all : List Pair) → 1 ≤ size → Sought size most digest rest all
    → entry_size size most ≤ length rest → Ahead size most digest rest all
Sought-ahead size most digest rest all some h enough = by h.pairs h.each h.is h.still h.from
  where
    step : ℕ
    step = entry_size size most

    by : (ps : List Pair) → All (IsPair size most) ps → rest ≡ flat_map (entry most) ps
        → ((value : List ℕ) → Contains all (pair digest value) → Contains ps (pair digest value))
        → ((value : List ℕ) → Contains ps (pair digest value) → Contains all (pair digest value)) → Ahead size most digest rest all
    by [] each is still from = absurd (omega (arith, ap length is, enough, some))
    by (p ∷ ps) each is still from =
        let ip = All-head (IsPair size most) p ps each in
        let long = length-entry size most p (sizes_of_pair size most p ip) in
        record {
          p = p;
          is_pair = ip;
          is_entry = ap (take step) is ∙ take_at (entry most p) (flat_map (entry most) ps) step long;
          among = λ value same. from value (subst (λ q. Contains (p ∷ ps) q) same (Contains-here p ps));
          behind = λ other. record {
            pairs = ps;
            each = All-tail (IsPair size most) p ps each;
            is = ap (drop step) is ∙ drop_at (entry most p) (flat_map (entry most) ps) step long;
            still = λ value h. elim (Contains-cases p (pair digest value) ps (still value h)) [
              | inl same ↦ absurd (other (ap (λ (q : Pair). q.digest) same))
              | inr there ↦ there
            ];
            from = λ value h. from value (Contains-there p (pair digest value) ps h);
          };
        }

-- too few bytes for an entry have no pair with the digest
pub Sought-none : (size most : ℕ) (digest rest : List ℕ) (all : List Pair) → Sought size most digest rest all → length rest < entry_size size most
    → LacksDigest all digest
Sought-none size most digest rest all h short = by h.pairs h.each h.is h.still
  where
    by : (ps : List Pair) → All (IsPair size most) ps → rest ≡ flat_map (entry most) ps
        → ((value : List ℕ) → Contains all (pair digest value) → Contains ps (pair digest value)) → LacksDigest all digest
    by [] each is still value has = absurd (Contains-none (pair digest value) (still value has))
    by (p ∷ ps) each is still value has =
        absurd (omega (
          arith,
          ap length is,
          length-append (entry most p) (flat_map (entry most) ps),
          length-entry size most p (sizes_of_pair size most p (All-head (IsPair size most) p ps each)),
          short,
        ))
