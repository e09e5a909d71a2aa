-- Reading Database on, behind what was read of it.
use Rattle.std.proofs.Common.{◌≡◌, ◌∙◌, ℕ, ◌+◌, ◌<◌, ◌≤◌, List, [], ◌++◌, length, take, drop, refl, sym, ap, ap₂, subst, subst₂, arith}
use Rattle.std.specs.Prelude.{Option, Some, None, IfSome}
use Rattle.std.specs.Option.{option_map}
use Rattle.std.proofs.lemmas.List.{drop-append-le, drop_all, length-append, length-drop, length-take-le, take_all, take-append-le}
use Rattle.std.proofs.Math.Seq.{take-add}
use Rattle.port_trait.specs.World.{Cell, World}
use Rattle.port_trait.specs.Number.{DATABASE}
use Rattle.port_trait.specs.Moves.{Hands}
use Rattle.port_trait.specs.Whole.{Ends, IsPrefix, Reads}
use Rattle.port_trait.proofs.Cells.{reads_more, took_none}
use Rattle.block_matrix.proofs.Pieces.{reads_ended}

-- at first nothing is read
none_held : (o : Option (List ℕ)) → IfSome o (IsPrefix [])
none_held None = tt
none_held (Some held) = record { there = omega arith; bytes = refl }

pub none_read : (w : World) → Reads DATABASE [] w w
none_read w = record { cell = sym (took_none (w.at DATABASE)); told = none_held (w.at DATABASE).holds }

-- what lies behind a list that is put before another
behind : (first rest : List ℕ) → drop (length first) (first ++ rest) ≡ rest
behind first rest =
    drop-append-le (length first) first rest (omega arith)
    ∙ ap (λ (l : List ℕ). l ++ rest) (drop_all (length first) first (omega arith))

-- and what lies before it
before_it : (first rest : List ℕ) → take (length first) (first ++ rest) ≡ first
before_it first rest = take-append-le (length first) first rest (omega arith) ∙ take_all (length first) first (omega arith)

module _ (read before after : List ℕ) (w v u : World) (same : length after ≡ length before) (so_far : Reads DATABASE read w v) where
  -- as many bytes came as there was room for
  pub reads_full : Hands DATABASE (length before) before after v u → Reads DATABASE (read ++ after) w u
  reads_full hands =
      subst (λ (l : List ℕ). Reads DATABASE (read ++ l) w u) (take_all (length before) after (omega (arith, same)))
      (reads_more DATABASE (length before) read before after w v u same so_far hands)

  -- fewer came, and they are all that there were
  module _ (n : ℕ) (ends : Ends DATABASE n before after v u) where
    pub reads_last : Reads DATABASE (read ++ take n after) w u
    reads_last = reads_more DATABASE n read before after w v u same so_far ends.hands

    pub reads_all : IfSome (w.at DATABASE).holds (λ held. read ++ take n after ≡ held)
    reads_all =
        let most = length read + length before + 1 in
        let grown : (rest : List ℕ) → length (read ++ rest) ≡ length read + length rest = length-append read in
        let whole = reads_ended most n read (read ++ before) (read ++ after) w v u (before_it read before) (before_it read after ∙ sym (before_it read before))
        (grown after ∙ ap (λ k. length read + k) same ∙ sym (grown before)) (omega (arith, grown before)) so_far
        (subst₂ (λ (xs ys : List ℕ). Ends DATABASE n xs ys v u) (sym (behind read before)) (sym (behind read after)) ends) in
        let is : take (length read + n) (read ++ after) ≡ read ++ take n after
        = take-add (length read) n (read ++ after) ∙ ap₂ (λ (xs ys : List ℕ). xs ++ ys) (before_it read after) (ap (take n) (behind read after)) in
        let fewer : length (read ++ take n after) < most
        = omega (arith, ends.fewer, grown (take n after), length-take-le n after (omega (arith, ends.fewer, same))) in
        subst (λ (l : List ℕ). IfSome (w.at DATABASE).holds (λ held. l ≡ held)) is
        (whole.ended (subst (λ (l : List ℕ). length l < most) (sym is) fewer))

-- Database is at its end, so what was read is all of it
held_all : (read : List ℕ) (o rest : Option (List ℕ)) → rest ≡ option_map (drop (length read)) o → IfSome o (IsPrefix read)
    → IfSome rest (λ h. h ≡ []) → IfSome o (λ held. read ≡ held)
held_all read None rest is prefix none = tt
held_all read (Some held) rest is prefix none =
    let left : drop (length read) held ≡ [] = subst (λ (x : Option (List ℕ)). IfSome x (λ h. h ≡ [])) is none in
    let few : length held ≤ length read = omega (arith, ap length left, length-drop (length read) held) in
    prefix.bytes ∙ take_all (length read) held few

pub all_read : (read : List ℕ) (w v : World) → Reads DATABASE read w v → IfSome (v.at DATABASE).holds (λ h. h ≡ [])
    → IfSome (w.at DATABASE).holds (λ held. read ≡ held)
all_read read w v reads none =
    held_all read (w.at DATABASE).holds (v.at DATABASE).holds (ap (λ (c : Cell). c.holds) reads.cell) reads.told none
