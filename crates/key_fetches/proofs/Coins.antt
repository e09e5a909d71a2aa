-- The coins of one fetch after those of others.
use Rattle.std.proofs.Common.{◌≡◌, ◌∙◌, ℕ, ◌+◌, ◌*◌, ◌%◌, ◌<◌, ◌≤◌, List, [], ◌∷◌, ◌++◌, length, take, drop, Option, Some, None, sym, ap, ap₂, subst, length-append, length-drop, length-take, arith}
use Rattle.std.specs.Prelude.{IfSome, min}
use Rattle.std.specs.Option.{option_map}
use Rattle.std.proofs.Math.Nat.{min-le_right, mul-le-mul_right}
use Rattle.std.proofs.Math.Seq.{take-add}
use Rattle.std.proofs.lemmas.Grind.{flat_map-append}
use Rattle.std.proofs.lemmas.List.{append-nil}
use Rattle.std.proofs.lemmas.List.Elements.{All-append}
use Rattle.std.proofs.lemmas.Nat.{mod-mul-add}
use Rattle.port_trait.specs.World.{Cell, World}
use Rattle.port_trait.specs.Number.{COINS}
use Rattle.port_trait.specs.Moves.{RoseOnce, took, counted}
use Rattle.port_trait.specs.Whole.{FailsShort}
use Rattle.port_trait.proofs.Cells.{took-took}
use Rattle.query_rounds.specs.declared.plan.FetchPlan.{FetchPlan}
use Rattle.query_rounds.specs.Plan.{need}
use Rattle.port_trait.specs.Tossed.{Tossed, RunsOut}
use Rattle.key_search.specs.Standing.{turns_of}
use Rattle.key_fetches.specs.Rounds.{Round, TossedFor, coins_of}
use Rattle.key_fetches.specs.LookedUp.{EndsNext, FailsNext, TooFewHeld}

-- the coins of one more fetch stand at the end
coins-more : (rounds : List Round) (round : Round) → coins_of rounds ++ round.coins ≡ coins_of (rounds ++ round ∷ [])
coins-more rounds round =
    ap (λ (l : List ℕ). coins_of rounds ++ l) (sym (append-nil round.coins))
    ∙ sym (flat_map-append (λ (r : Round). r.coins) rounds (round ∷ []))

-- what was held of the coins that were taken first and then
held_more : (n m : ℕ) (cs ds : List ℕ) (o o1 : Option (List ℕ)) → o1 ≡ option_map (drop n) o
    → IfSome o (λ held. cs ≡ take n held) → IfSome o1 (λ held. ds ≡ take m held) → IfSome o (λ held. cs ++ ds ≡ take (n + m) held)
held_more n m cs ds None o1 left a b = tt
held_more n m cs ds (Some held) o1 left a b =
    let b' : ds ≡ take m (drop n held) = subst (λ (x : Option (List ℕ)). IfSome x (λ h. ds ≡ take m h)) left b in
    ap₂ (λ (x y : List ℕ). x ++ y) a b' ∙ sym (take-add n m held)

-- coins were taken, and then more
pub tossed_more : (n m : ℕ) (cs ds : List ℕ) (old mid new : Cell) → Tossed n cs old mid → Tossed m ds mid new
    → Tossed (n + m) (cs ++ ds) old new
tossed_more n m cs ds old mid new a b = record {
  size = length-append cs ds ∙ ap₂ (λ (x y : ℕ). x + y) a.size b.size;
  bytes = All-append (λ b. b < 256) cs ds a.bytes b.bytes;
  cell = b.cell ∙ ap (took m) a.cell ∙ took-took m n old;
  told = held_more n m cs ds old.holds mid.holds (ap (λ (c : Cell). c.holds) a.cell) a.told b.told;
}

-- the coins of one more fetch were taken
pub tossed_next : (p : FetchPlan) (count : ℕ) (rounds : List Round) (round : Round) (first : Cell) (mid new : World)
    → TossedFor p count rounds first mid → Tossed (need p 1) round.coins (mid.at COINS) (new.at COINS)
    → TossedFor p (count + 1) (rounds ++ round ∷ []) first new
tossed_next p count rounds round first mid new a b =
    let both = tossed_more (count * need p 1) (need p 1) (coins_of rounds) round.coins first (mid.at COINS) (new.at COINS) a b in
    let size : count * need p 1 + need p 1 ≡ (count + 1) * need p 1 = omega arith in
    subst (λ (cs : List ℕ). Tossed ((count + 1) * need p 1) cs first (new.at COINS)) (coins-more rounds round)
    (subst (λ (n : ℕ). Tossed n (coins_of rounds ++ round.coins) first (new.at COINS)) size both)

-- as many were held as were taken
taken_whole : (size : ℕ) (cs held : List ℕ) → length cs ≡ size → cs ≡ take size held → size ≤ length held
taken_whole size cs held is a =
    let few = min-le_right size (length held) in
    let same : size ≡ min size (length held) = sym is ∙ ap length a ∙ length-take size held in
    subst (λ (k : ℕ). k ≤ length held) (sym same) few

-- what was held, where n more bytes or more were left
held_left : (size n : ℕ) (cs : List ℕ) (o o1 : Option (List ℕ)) → length cs ≡ size → o1 ≡ option_map (drop size) o
    → IfSome o (λ held. cs ≡ take size held) → IfSome o1 (λ held. n ≤ length held)
    → IfSome o (λ held. (cs ≡ take (length cs) held) × (length cs + n ≤ length held))
held_left size n cs None o1 is left a b = tt
held_left size n cs (Some held) o1 is left a b =
    let b' : n ≤ length (drop size held) = subst (λ (x : Option (List ℕ)). IfSome x (λ h. n ≤ length h)) left b in
    let few = length-drop size held in
    let there : size ≤ length held = taken_whole size cs held is a in
    (a ∙ ap (λ (k : ℕ). take k held) (sym is), omega (arith, b', few, is, there))

-- a call on Coins failed, before the coins of one more fetch were whole
pub fails_next : (p : FetchPlan) (count : ℕ) (rounds : List Round) (first : Cell) (mid new : World) → TossedFor p count rounds first mid
    → FailsShort COINS (need p 1) mid new → FailsNext (need p 1) (coins_of rounds) first (new.at COINS)
fails_next p count rounds first mid new a failed =
    let size = count * need p 1 in
    let n = failed.after.n in
    record {
      n = n;
      fewer = failed.fewer;
      cell = failed.after.cell
          ∙ ap (λ (c : Cell). counted (new.at COINS).faults (took n c)) a.cell
          ∙ ap (counted (new.at COINS).faults) (took-took n size first)
          ∙ ap (λ (k : ℕ). counted (new.at COINS).faults (took (k + n) first)) (sym a.size);
      told = held_left size n (coins_of rounds) first.holds (mid.at COINS).holds a.size
          (ap (λ (c : Cell). c.holds) a.cell) a.told failed.after.held;
      rose = subst (λ (k : ℕ). RoseOnce k (new.at COINS).faults) (ap (λ (c : Cell). c.faults) a.cell) failed.after.rose;
    }

-- what was held, where exactly n more bytes were left
held_all : (size n : ℕ) (cs : List ℕ) (o o1 : Option (List ℕ)) → length cs ≡ size → o1 ≡ option_map (drop size) o
    → IfSome o (λ held. cs ≡ take size held) → IfSome o1 (λ held. length held ≡ n)
    → IfSome o (λ held. (cs ≡ take (length cs) held) × (length held ≡ length cs + n))
held_all size n cs None o1 is left a b = tt
held_all size n cs (Some held) o1 is left a b =
    let b' : length (drop size held) ≡ n = subst (λ (x : Option (List ℕ)). IfSome x (λ h. length h ≡ n)) left b in
    let few = length-drop size held in
    let there : size ≤ length held = taken_whole size cs held is a in
    (a ∙ ap (λ (k : ℕ). take k held) (sym is), omega (arith, b', few, is, there))

-- Coins ended, before the coins of one more fetch were whole
pub ends_next : (p : FetchPlan) (count n : ℕ) (rounds : List Round) (first : Cell) (mid new : World) → TossedFor p count rounds first mid
    → RunsOut (need p 1) n (mid.at COINS) (new.at COINS)
    → EndsNext (need p 1) n (coins_of rounds) first (new.at COINS)
ends_next p count n rounds first mid new a short =
    let size = count * need p 1 in
    record {
      fewer = short.fewer;
      cell = short.cell ∙ ap (took n) a.cell ∙ took-took n size first
          ∙ ap (λ (k : ℕ). took (k + n) first) (sym a.size);
      told = held_all size n (coins_of rounds) first.holds (mid.at COINS).holds a.size
          (ap (λ (c : Cell). c.holds) a.cell) a.told short.all;
    }

-- so there were fewer than all turns need, and these are what was left of them
pub too_few_held : (p : FetchPlan) (count n : ℕ) (cs : List ℕ) (o : Option (List ℕ)) → n < need p 1 → count < turns_of p.r
    → length cs ≡ count * need p 1 → IfSome o (λ held. (cs ≡ take (length cs) held) × (length held ≡ length cs + n))
    → IfSome o (TooFewHeld p n)
too_few_held p count n cs None few turns is told = tt
too_few_held p count n cs (Some held) few turns is told =
    let whole : length held ≡ count * need p 1 + n = told.1 ∙ ap (λ (k : ℕ). k + n) is in
    let most : (count + 1) * need p 1 ≤ turns_of p.r * need p 1 = mul-le-mul_right (need p 1) (omega arith) in
    record {
      fewer = omega (arith, whole, most, few);
      rest = sym (ap (λ (k : ℕ). k % need p 1) whole ∙ mod-mul-add count (need p 1) n few);
    }
