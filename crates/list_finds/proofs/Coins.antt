-- The coins of one more query after those of others.
use Rattle.std.proofs.Common.{◌≡◌, ◌∙◌, ℕ, ◌+◌, ◌<◌, ◌≤◌, List, [], ◌∷◌, ◌++◌, length, take, drop, Option, Some, None, refl, sym, ap, subst, length-drop, length-take, arith}
use Rattle.std.specs.Prelude.{IfSome, min}
use Rattle.std.specs.Option.{option_map}
use Rattle.std.proofs.Math.Nat.{min-le_right}
use Rattle.std.proofs.lemmas.Grind.{flat_map-append}
use Rattle.std.proofs.lemmas.List.{append-nil}
use Rattle.std.proofs.lemmas.List.Elements.{All-nil}
use Rattle.port_trait.specs.World.{Cell, World}
use Rattle.port_trait.specs.Number.{COINS}
use Rattle.port_trait.specs.Moves.{RoseOnce, took, counted}
use Rattle.port_trait.specs.Tossed.{RunsOut, Tossed}
use Rattle.port_trait.specs.Whole.{FailsShort}
use Rattle.port_trait.proofs.Cells.{took-took, took_none}
use Rattle.key_fetches.specs.LookedUp.{EndsNext, FailsNext}
use Rattle.key_fetches.proofs.Coins.{tossed_more}
use Rattle.list_finds.specs.Found.{TossedFor}
use Rattle.list_finds.specs.Queries.{Query, coins_of}

-- the coins of one more query stand at the end
pub coins_of-more : (queries : List Query) (q : Query) → coins_of (queries ++ q ∷ []) ≡ coins_of queries ++ q.coins
coins_of-more queries q =
    flat_map-append (λ (r : Query). r.coins) queries (q ∷ [])
    ∙ ap (λ (l : List ℕ). coins_of queries ++ l) (append-nil q.coins)

-- no coins were taken yet
pub none_tossed : (w : World) → TossedFor [] (w.at COINS) w
none_tossed w = record {
  size = refl;
  bytes = All-nil (λ b. b < 256);
  cell = sym (took_none (w.at COINS));
  told = held (w.at COINS).holds;
}
  where
    held : (o : Option (List ℕ)) → IfSome o (λ held. [] ≡ take 0 held)
    held None = tt
    held (Some h) = refl

-- the coins of one more query were taken
pub tossed_next : (queries : List Query) (q : Query) (n : ℕ) (first : Cell) (mid new : World) → TossedFor queries first mid
    → Tossed n q.coins (mid.at COINS) (new.at COINS) → TossedFor (queries ++ q ∷ []) first new
tossed_next queries q n first mid new a b =
    let cs = coins_of queries in
    let both = tossed_more (length cs) n cs q.coins first (mid.at COINS) (new.at COINS) a b in
    let size : length cs + n ≡ length (cs ++ q.coins) = sym both.size in
    subst (λ (l : List ℕ). Tossed (length l) l first (new.at COINS)) (sym (coins_of-more queries q))
    (subst (λ (k : ℕ). Tossed k (cs ++ q.coins) first (new.at COINS)) size both)

-- as many were held as were taken
taken_whole : (cs held : List ℕ) → cs ≡ take (length cs) held → length cs ≤ length held
taken_whole cs held a =
    let few = min-le_right (length cs) (length held) in
    let same : length cs ≡ min (length cs) (length held) = ap length a ∙ length-take (length cs) held in
    subst (λ (k : ℕ). k ≤ length held) (sym same) few

-- what was held, where this holds of how many bytes were left
held_left : (P : ℕ → Type 0) (cs : List ℕ) (o o1 : Option (List ℕ)) → o1 ≡ option_map (drop (length cs)) o
    → IfSome o (λ held. cs ≡ take (length cs) held) → IfSome o1 (λ held. P (length held))
    → IfSome o (λ held. (cs ≡ take (length cs) held) × (n : ℕ) × P n × (length held ≡ length cs + n))
held_left P cs None o1 left a b = tt
held_left P cs (Some held) o1 left a b =
    let b' : P (length (drop (length cs) held)) = subst (λ (x : Option (List ℕ)). IfSome x (λ h. P (length h))) left b in
    let rest = length-drop (length cs) held in
    let there : length cs ≤ length held = taken_whole cs held a in
    (a, length (drop (length cs) held), b', omega (arith, rest, there))

-- what is said where bytes are told says this too
weaker : (P Q : List ℕ → Type 0) → ((held : List ℕ) → P held → Q held) → (o : Option (List ℕ)) → IfSome o P → IfSome o Q
weaker P Q from None h = tt
weaker P Q from (Some held) h = from held h

-- a call on Coins failed, before the coins of one more query were whole
pub fails_next : (each : ℕ) (queries : List Query) (first : Cell) (mid new : World) → TossedFor queries first mid
    → FailsShort COINS each mid new → FailsNext each (coins_of queries) first (new.at COINS)
fails_next each queries first mid new a failed =
    let cs = coins_of queries in
    let n = failed.after.n in
    record {
      n = n;
      fewer = failed.fewer;
      cell = failed.after.cell
          ∙ ap (λ (c : Cell). counted (new.at COINS).faults (took n c)) a.cell
          ∙ ap (counted (new.at COINS).faults) (took-took n (length cs) first);
      told = weaker _ _ (λ held h. (h.0, let more : n ≤ h.1 = h.2 in omega (arith, h.3, more))) first.holds
          (held_left (λ k. n ≤ k) cs first.holds (mid.at COINS).holds (ap (λ (c : Cell). c.holds) a.cell) a.told failed.after.held);
      rose = subst (λ (k : ℕ). RoseOnce k (new.at COINS).faults) (ap (λ (c : Cell). c.faults) a.cell) failed.after.rose;
    }

-- Coins ended, before the coins of one more query were whole
pub ends_next : (each n : ℕ) (queries : List Query) (first : Cell) (mid new : World) → TossedFor queries first mid
    → RunsOut each n (mid.at COINS) (new.at COINS) → EndsNext each n (coins_of queries) first (new.at COINS)
ends_next each n queries first mid new a short =
    let cs = coins_of queries in
    record {
      fewer = short.fewer;
      cell = short.cell ∙ ap (took n) a.cell ∙ took-took n (length cs) first;
      told = weaker _ _ (λ held h. (h.0, h.3 ∙ ap (λ (k : ℕ). length cs + k) h.2)) first.holds
          (held_left (λ k. k ≡ n) cs first.holds (mid.at COINS).holds (ap (λ (c : Cell). c.holds) a.cell) a.told short.all);
    }
