-- What a query asks for may be asked for.
use Rattle.std.proofs.Common.{◌≡◌, ◌∙◌, ℕ, ◌+◌, ◌-◌, ◌*◌, ◌/◌, ◌<◌, ◌≤◌, Bor, List, [], ◌∷◌, length, map, take, drop, All, Option, refl, sym, ap, subst, arith, le-div_iff_mul-le, mul-le-mul_right}
use Rattle.std.proofs.Math.Nat.{div-mul-le_self}
use Rattle.std.proofs.lemmas.List.{length-map}
use Rattle.quantity_limits.specs.declared.TheConstants.{MOST_WIDTH}
use Rattle.query_rounds.specs.Plan.{AreBlocks, IsPlan}
use Rattle.query_rounds.specs.Request.{Request, request}
use Rattle.list_finds.specs.Held.{Held}
use Rattle.list_finds.specs.Known.{row_in}
use Rattle.list_finds.specs.Told.{Tells}
use Rattle.list_finds.specs.Wanted.{Wanted, keys_each, keys_of, queries_for, rows_of}
use Rattle.list_finds.specs.declared.known_list.KnownList.{KnownList}
use Rattle.list_finds.proofs.Pieces.{begins_within, length-piece}

-- a query has some key
pub some_each : (width : ℕ) → 1 ≤ width → width ≤ MOST_WIDTH → 1 ≤ keys_each width
some_each width some few =
    let one : 1 ≤ MOST_WIDTH / width = (le-div_iff_mul-le {k = width} {x = 1} {y = MOST_WIDTH} (omega (arith, some))).1 (omega (arith, few)) in
    omega (arith, one)

-- all its rows have no more bytes than may be asked for
pub few_bytes : (width keys : ℕ) → keys ≤ keys_each width → keys * width ≤ MOST_WIDTH
few_bytes width keys few =
    let all : keys * width ≤ MOST_WIDTH / width * width = mul-le-mul_right width (omega (arith, few)) in
    omega (arith, all, div-mul-le_self MOST_WIDTH width)

-- the rows of texts, one after the other
rows_of_texts : (list : KnownList) (r : ℕ) (own : List (Bor (List ℕ)))
    → map (λ k. row_in list r k.now) own ≡ map (row_in list r) (map (λ k. k.now) own)
rows_of_texts list r [] = refl
rows_of_texts list r (k ∷ own) = ap (λ (rows : List ℕ). row_in list r k.now ∷ rows) (rows_of_texts list r own)

-- the rows that are written are those of the query's keys
pub rows_are : (w : Wanted) (count given : ℕ) (own : List (Bor (List ℕ))) (rows : List ℕ)
    → rows ≡ map (λ k. row_in w.list w.plan.r k.now) own → map (λ k. k.now) own ≡ take given (drop (count * given) w.keys)
    → given ≡ keys_each w.plan.s → rows ≡ rows_of w (keys_of w count)
rows_are w count given own rows is cut same =
    is ∙ rows_of_texts w.list w.plan.r own
    ∙ ap (map (row_in w.list w.plan.r)) (cut ∙ ap (λ (n : ℕ). take n (drop (count * n) w.keys)) same)

-- they may be asked for
pub are_blocks : (w : Wanted) (count : ℕ) (rows : List ℕ) → IsPlan w.plan → count < queries_for w
    → rows ≡ rows_of w (keys_of w count) → All (λ b. b < w.plan.r) rows → AreBlocks w.plan rows
are_blocks w count rows plan fewer is low =
    let each = some_each w.plan.s plan.numbers.shape.some_bytes plan.numbers.shape.few_bytes in
    let within = begins_within (length w.keys) (keys_each w.plan.s) count each fewer in
    let size = ap length is ∙ length-map (keys_of w count) (row_in w.list w.plan.r) ∙ length-piece w.keys (keys_each w.plan.s) count in
    let few : length rows ≤ keys_each w.plan.s = omega (arith, size) in
    record {
      some = omega (arith, size, within, each);
      few = omega (arith, few);
      each = low;
      few_bytes = few_bytes w.plan.s (length rows) few;
    }

-- what is said of a fetch of these rows is said of what the query asks for
pub asked_as : (P : Request → Type 0) (v w : Wanted) (count : ℕ) (rows : List ℕ) → v ≡ w → rows ≡ rows_of v (keys_of v count)
    → P (request v.plan rows v.addresses) → P (request w.plan (rows_of w (keys_of w count)) w.addresses)
asked_as P v w count rows same is said =
    subst (λ (u : Wanted). P (request u.plan (rows_of u (keys_of u count)) u.addresses)) same
    (subst (λ (l : List ℕ). P (request v.plan l v.addresses)) is said)

-- the keys that are cut are those of the query
pub keys_are : (w : Wanted) (count given : ℕ) (own : List (List ℕ)) → own ≡ take given (drop (count * given) w.keys)
    → given ≡ keys_each w.plan.s → own ≡ keys_of w count
keys_are w count given own cut same = cut ∙ ap (λ (n : ℕ). take n (drop (count * n) w.keys)) same

-- so is what is told of them
pub tells_as : (v w : Wanted) (count : ℕ) (block : Option (List ℕ)) (own : List (List ℕ)) (old new : Held) → v ≡ w
    → own ≡ keys_of v count → Tells v.list v.plan.r v.plan.s block own old new
    → Tells w.list w.plan.r w.plan.s block (keys_of w count) old new
tells_as v w count block own old new same is tells =
    subst (λ (u : Wanted). Tells u.list u.plan.r u.plan.s block (keys_of u count) old new) same
    (subst (λ (ks : List (List ℕ)). Tells v.list v.plan.r v.plan.s block ks old new) is tells)

-- rows of the table are rows of it by the same numbers
pub low_as : (v w : Wanted) (count : ℕ) (rows : List ℕ) → v ≡ w → rows ≡ rows_of v (keys_of v count)
    → All (λ b. b < v.plan.r) rows → All (λ b. b < w.plan.r) (rows_of w (keys_of w count))
low_as v w count rows same is low =
    subst (λ (u : Wanted). All (λ b. b < u.plan.r) (rows_of u (keys_of u count))) same
    (subst (All (λ b. b < v.plan.r)) is low)

-- as many texts as there are keys
pub queries_as : (w : Wanted) (keys : List (Bor (List ℕ))) (n : ℕ) → map (λ k. k.now) keys ≡ w.keys
    → n ≡ (length keys + (keys_each w.plan.s - 1)) / keys_each w.plan.s → n ≡ queries_for w
queries_as w keys n texts is =
    is ∙ ap (λ (m : ℕ). (m + (keys_each w.plan.s - 1)) / keys_each w.plan.s)
    (sym (length-map keys (λ (k : Bor (List ℕ)). k.now)) ∙ ap length texts)
