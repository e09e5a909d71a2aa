-- One tile of columns after the other.
use Rattle.std.proofs.Common.{◌≡◌, ℕ, ◌+◌, ◌-◌, ◌<◌, ◌≤◌, inl, inr, List, ◌++◌, length, get_or, take, drop, ap, subst, ◌∙◌, arith, get_or-take, length-append, length-drop}
use borrow.Rule.Slice.PartMut.{put_mid}
use Rattle.std.proofs.lemmas.Bool.{cases_lt}
use Rattle.std.proofs.lemmas.List.{length-take-le, get_or_append_left, get_or-append_right}
use Rattle.column_runs.specs.Lagrange.{extended}
use Rattle.column_runs.specs.Tile.{cell, Follow, IsTile}

-- a part of a list is written
module _ (out new : List ℕ) (done size : ℕ) (room : done + size ≤ length out) (long : length new ≡ size) where
  -- the list with that part
  abbrev written : List ℕ
  written = put_mid done size out new

  -- so many stand before it
  front-size : length (take done out) ≡ done
  front-size = length-take-le done out (omega (arith, room))

  -- it is as long as it was
  pub length-written : length written ≡ length out
  length-written =
      let rest = drop size (drop done out) in
      let front = front-size in
      let all = length-append (take done out) (new ++ rest) in
      let both = length-append new rest in
      let after = length-drop size (drop done out) in
      let behind = length-drop done out in
      omega (arith, front, all, both, after, behind, room, long)

  -- what stands before is as it was
  pub written-before : (i : ℕ) → i < done → get_or written i 0 ≡ get_or out i 0
  written-before i l =
      get_or_append_left (take done out) (new ++ drop size (drop done out)) 0 i (let n = front-size in omega (arith, l, n)) ∙ get_or-take done out i 0 l

  -- and the part is the new one
  pub written-part : (i : ℕ) → done ≤ i → i < done + size → get_or written i 0 ≡ get_or new (i - done) 0
  written-part i l m =
      get_or-append_right (take done out) (new ++ drop size (drop done out)) done i 0 front-size l
      ∙ get_or_append_left new (drop size (drop done out)) 0 (i - done) (omega (arith, l, m, long))

  module _ (rows : List (List ℕ)) (from : ℕ) (others : List (List ℕ)) (zero : List ℕ) (n : ℕ) (tile : IsTile rows (from + done) others zero new n) where
    -- the columns before, and those of the tile
    pub follow_more : ((c : ℕ) → c < done → Follow rows (length zero) others (from + c)) → (c : ℕ) → c < done + n → Follow rows (length zero) others (from + c)
    follow_more before c l =
        elim (cases_lt c done) [
          | inl low ↦ before c low
          | inr high ↦
              let place : from + done + (c - done) ≡ from + c = omega (arith, high) in
              subst (Follow rows (length zero) others) place (tile.follow (c - done) (omega (arith, l, high)))
        ]

    pub constants_more : ((c : ℕ) → c < done → get_or out c 0 ≡ extended zero (cell rows (from + c)))
        → (c : ℕ) → c < done + n → get_or written c 0 ≡ extended zero (cell rows (from + c))
    constants_more before c l =
        elim (cases_lt c done) [
          | inl low ↦ written-before c low ∙ before c low
          | inr high ↦
              let place : from + done + (c - done) ≡ from + c = omega (arith, high) in
              let within = tile.within in
              written-part c high (omega (arith, l, within, long)) ∙ tile.constants (c - done) (omega (arith, l, high))
              ∙ ap (λ column. extended zero (cell rows column)) place
        ]

    -- a tile that ends early ends them all
    pub ends_early : n < size → ((c : ℕ) → c < done → Follow rows (length zero) others (from + c))
        → ((c : ℕ) → c < done → get_or out c 0 ≡ extended zero (cell rows (from + c))) → IsTile rows from others zero written (done + n)
    ends_early less follows constants = record {
      within = let size = length-written in omega (arith, less, room, size);
      follow = follow_more follows;
      constants = constants_more constants;
      longest = λ l follow.
          let place : from + (done + n) ≡ from + done + n = omega arith in
          tile.longest (omega (arith, less, long)) (subst (Follow rows (length zero) others) place follow);
    }
