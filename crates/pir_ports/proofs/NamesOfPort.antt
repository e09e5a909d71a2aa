-- The names of each port after one name more.
use Rattle.std.proofs.Common.{◌≡◌, ◌≢◌, ℕ, List, [], ◌∷◌, ◌++◌, get_or, refl, ◌∙◌, ap, arith}
use Rattle.std.specs.Prelude.{Bool, true, false, cond, eqb}
use Rattle.std.proofs.lemmas.Bool.Decides.{nat_tests}
use Rattle.port_trait.specs.World.{Crowd}
use Rattle.pir_ports.specs.MemoryCell.{MemoryCell, empty_cell}
use Rattle.pir_ports.specs.NameLog.{NameLog, names_of, with_name}
use Rattle.pir_ports.specs.Memory.{told, world_from}
use Rattle.port_trait.specs.Moves.{Touches, named}

-- an element behind a choice of lists is behind each
cond_push : (b : Bool) (x y : List ℕ) (l : List (List ℕ))
    → cond b (x ∷ l ++ y ∷ []) (l ++ y ∷ []) ≡ cond b (x ∷ l) l ++ y ∷ []
cond_push true x y l = refl
cond_push false x y l = refl

-- its own port has the name as its last
names_of-push_same : (p : ℕ) (names : List (ℕ × List ℕ)) (name : List ℕ)
    → names_of p (names ++ (p, name) ∷ []) ≡ names_of p names ++ name ∷ []
names_of-push_same p [] name = grind (arith, nat_tests)
names_of-push_same p (n ∷ names) name = (λ i. cond (eqb n.0 p) (n.1 ∷ names_of-push_same p names name i) (names_of-push_same p names name i)) ∙ cond_push (eqb n.0 p) n.1 name (names_of p names)

-- another port has the names that it had
names_of-push_other : (p q : ℕ) (names : List (ℕ × List ℕ)) (name : List ℕ) → q ≢ p
    → names_of q (names ++ (p, name) ∷ []) ≡ names_of q names
names_of-push_other p q [] name ne = grind (arith, nat_tests)
names_of-push_other p q (n ∷ names) name ne = λ i. cond (eqb n.0 q) (n.1 ∷ names_of-push_other p q names name ne i) (names_of-push_other p q names name ne i)

module _ (cells : List MemoryCell) (log : NameLog) (crowd : Crowd) (p : ℕ) (name : List ℕ) where
  -- an opening is told of its port
  pub told_name : (world_from cells (with_name p name log) crowd).at p ≡ named name ((world_from cells log crowd).at p)
  told_name = ap (λ (ns : List (List ℕ)). told ns (get_or cells p empty_cell)) (names_of-push_same p log.names name)

  -- an opening touches its own port alone
  pub touches_name : Touches p (world_from cells log crowd) (world_from cells (with_name p name log) crowd)
  touches_name = record {
    others = λ q lq ne. ap (λ (ns : List (List ℕ)). told ns (get_or cells q empty_cell)) (names_of-push_other p q log.names name ne);
    crowd = refl;
    started = refl;
  }
