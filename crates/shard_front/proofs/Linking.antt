-- A link that was asked.
use Rattle.std.proofs.Common.{◌≡◌, ◌∙◌, inl, inr, ℕ, ◌≤◌, List, length, take, sym, ap, subst, arith}
use Rattle.std.specs.Prelude.{Option, Some, None, IfSome}
use Rattle.std.proofs.lemmas.List.{length-take-le, take_all}
use Rattle.std.proofs.lemmas.Option.{IfSome_then}
use Rattle.port_trait.specs.World.{Cell, World}
use Rattle.port_trait.specs.Moves.{Came, Hands, RoseOnce, took, gave, named, counted}
use Rattle.port_trait.specs.Whole.{Ends, FailsShort, FailsWithin}
use Rattle.shard_front.specs.Link.{LinkAnswers, LinkBreaks}

-- the link was opened and took the whole frame, and then a call failed
pub breaks_reading : (address frame : List ℕ) (most p : ℕ) (old mid : Cell) (v u : World) → mid ≡ named address old
    → v.at p ≡ gave frame mid → FailsShort p most v u → LinkBreaks address frame most old (u.at p)
breaks_reading address frame most p old mid v u is_open given failed =
    let before : v.at p ≡ gave frame (named address old) = given ∙ ap (gave frame) is_open in
    let m = failed.after.n in
    record {
      how = inr (inr record {
        m = m;
        fewer = failed.fewer;
        held = subst (λ (c : Cell). IfSome c.holds (λ held. m ≤ length held)) before failed.after.held;
        cell = failed.after.cell ∙ ap (λ (c : Cell). counted (u.at p).faults (took m c)) before;
      });
      rose = subst (λ (c : Cell). RoseOnce c.faults (u.at p).faults) before failed.after.rose;
    }

-- the link was opened, and then a call failed before it took the whole frame
pub breaks_giving : (address frame : List ℕ) (most p : ℕ) (old : Cell) (v u : World) → v.at p ≡ named address old
    → FailsWithin p frame v u → LinkBreaks address frame most old (u.at p)
breaks_giving address frame most p old v u is_open failed = record {
  how = inr (inl record {
    n = failed.n;
    proper = failed.proper;
    cell = failed.cell ∙ ap (λ (c : Cell). counted (u.at p).faults (gave (take failed.n frame) c)) is_open;
  });
  rose = subst (λ (c : Cell). RoseOnce c.faults (u.at p).faults) is_open failed.rose;
}

-- the link was opened and took the whole frame, and then so many bytes came
module _ (address frame before after : List ℕ) (p : ℕ) (old mid : Cell) (v u : World) (is_open : mid ≡ named address old)
    (given : v.at p ≡ gave frame mid) (size : length after ≡ length before) where
  -- the link was opened, and took the frame
  ready : v.at p ≡ gave frame (named address old)
  ready = given ∙ ap (gave frame) is_open

  -- then these bytes came, the first that it held
  came : (n : ℕ) → n ≤ length before → u.at p ≡ took n (v.at p)
      → IfSome old.holds (λ held. take n after ≡ take (length before) held) → LinkAnswers address frame (length before) (take n after) old (u.at p)
  came n few cell told =
      let long = length-take-le n after (omega (arith, few, size)) in
      record {
        cell = cell ∙ ap (took n) ready ∙ ap (λ (k : ℕ). took k (gave frame (named address old))) (sym long);
        short = omega (arith, long, few);
        told = told;
      }

  -- as many as were asked for
  pub answers_whole : Hands p (length before) before after v u → LinkAnswers address frame (length before) (take (length after) after) old (u.at p)
  answers_whole hands =
      let told = subst (λ (c : Cell). IfSome c.holds (Came (length before) before after)) ready hands.told in
      subst (λ (n : ℕ). LinkAnswers address frame (length before) (take n after) old (u.at p)) (sym size)
      (came (length before) (omega arith) hands.cell (IfSome_then old.holds told (λ (held : List ℕ) c. c.bytes)))

  -- fewer, and then the link ended
  pub answers_short : (n : ℕ) → Ends p n before after v u → LinkAnswers address frame (length before) (take n after) old (u.at p)
  answers_short n ends =
      let told = subst (λ (c : Cell). IfSome c.holds (Came n before after)) ready ends.hands.told in
      let all = subst (λ (c : Cell). IfSome c.holds (λ held. length held ≡ n)) ready ends.all in
      came n (omega (arith, ends.fewer)) ends.hands.cell (both old.holds told all)
    where
      -- all that the link held came
      both : (o : Option (List ℕ)) → IfSome o (Came n before after) → IfSome o (λ held. length held ≡ n) → IfSome o (λ held. take n after ≡ take (length before) held)
      both None a b = tt
      both (Some held) a b = a.bytes ∙ take_all n held (omega (arith, b)) ∙ sym (take_all (length before) held (omega (arith, b, ends.fewer)))
