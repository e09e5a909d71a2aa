-- A coalition holds the same shares of two databases.
use Rattle.std.proofs.Common.{◌≡◌, ◌≢◌, ℕ, ◌+◌, ◌*◌, ◌/◌, ◌%◌, ◌<◌, ◌≤◌, List, length, get_or, drop, All, Contains, sym, ap, ap₂, ◌∙◌, inl, inr, arith, length-drop}
use Rattle.std.proofs.lemmas.Bool.{cases_lt}
use Rattle.std.proofs.lemmas.List.{ext_get_or, get_or-drop, get_or_past}
use Rattle.std.proofs.lemmas.List.Elements.{All-from_get_or}
use Rattle.std.proofs.lemmas.List.FromFn.{length-map-range_with_len, get_or-map-range_with_len}
use Rattle.std.proofs.lemmas.Nat.{div-mul-add, mod-mul-add}
use Rattle.gf256.specs.Field.{◌⊕◌, ◌⊗◌}
use Rattle.gf256.specs.Polynomial.{coef, val}
use Rattle.gf256.specs.Rows.{IsAdded}
use Rattle.gf256.proofs.Xor.{sums, add_zero, add_self, add_assoc, add_comm, add_lt}
use Rattle.gf256.proofs.FieldLaws.{mul_comm, mul_zero, mul_add, add_mul, mul_left_comm, mul_lt}
use Rattle.uni_poly.specs.Coefficients.{IsScaledSum}
use Rattle.uni_poly.proofs.Addition.{val-scaled_sum}
use Rattle.shamir_share.specs.Query.{row_coins}
use Rattle.gf256.proofs.FlatRows.{row_within}
use Rattle.shamir_share.proofs.Rows.{coin_at, length-row_coins}
use Rattle.privacy_law.specs.Bijection.{AreCoins, IsBijection}
use Rattle.privacy_law.specs.Hiding.{hiding}
use Rattle.privacy_law.proofs.HidingPolynomial.{length-hiding, hiding_rest}
use Rattle.share_bytes.specs.Share.{position_polynomial, share}
use Rattle.share_db.specs.Partner.{difference, partner_db}
use Rattle.share_bytes.proofs.Shares.{share_at, length-share, val-position}

-- there are as many coins
pub length-partner_db : (coins from to : List ℕ) (tau : ℕ) (coalition : List ℕ) → length (partner_db coins from to tau coalition) ≡ length coins
unfolding partner_db
length-partner_db coins from to tau coalition = length-map-range_with_len _ 0 (length coins)

-- each coin
partner_db_at : (coins from to : List ℕ) (tau : ℕ) (coalition : List ℕ) (j : ℕ) → j < length coins
    → get_or (partner_db coins from to tau coalition) j 0 ≡ get_or coins j 0 ⊕ difference (hiding coalition) from to tau j
unfolding partner_db
partner_db_at coins from to tau coalition j l =
    get_or-map-range_with_len (λ j. get_or coins j 0 ⊕ difference (hiding coalition) from to tau j) 0 (length coins) j j 0 l (omega arith)

-- what is added to coin e of a position
difference_at : (g from to : List ℕ) (tau i e : ℕ) → e < tau → difference g from to tau (i * tau + e) ≡ (get_or from i 0 ⊕ get_or to i 0) ⊗ get_or (drop 1 g) e 0
unfolding difference coef
difference_at g from to tau i e l =
    ap₂ (λ d k. get_or g (d + 1) 0 ⊗ (get_or from k 0 ⊕ get_or to k 0)) (mod-mul-add i tau e l) (div-mul-add i tau e l)
    ∙ mul_comm _ _ ∙ ap (◌⊗◌ (get_or from i 0 ⊕ get_or to i 0)) (ap (λ k. get_or g k 0) (omega arith) ∙ sym (get_or-drop 1 g e 0))

-- a multiple of the polynomial without its constant is added to the coins of a position
coins_changed : (coins from to : List ℕ) (tau : ℕ) (coalition : List ℕ) (i : ℕ) → length coins ≡ length from * tau → i < length from → length (hiding coalition) ≤ tau + 1
    → IsScaledSum (row_coins (partner_db coins from to tau coalition) tau i) (row_coins coins tau i) (drop 1 (hiding coalition)) (get_or from i 0 ⊕ get_or to i 0)
unfolding coef
coins_changed coins from to tau coalition i long l few =
    let new = partner_db coins from to tau coalition in
    let g = hiding coalition in
    let d = get_or from i 0 ⊕ get_or to i 0 in
    let fit = row_within i (length from) tau l in
    let before = length-row_coins coins tau i (omega (arith, fit, long)) in
    let after = length-row_coins new tau i (omega (arith, fit, long, length-partner_db coins from to tau coalition)) in
    record {
      size = after ∙ sym before;
      each = λ e.
          elim (cases_lt e tau) [
            | inl inside ↦
                coin_at new tau i e inside ∙ partner_db_at coins from to tau coalition (i * tau + e) (omega (arith, fit, long, inside))
                ∙ ap₂ ◌⊕◌ (sym (coin_at coins tau i e inside)) (difference_at g from to tau i e inside)
            | inr past ↦
                get_or_past (row_coins new tau i) e 0 (omega (arith, after, past))
                ∙ sym (ap₂ (λ c b. c ⊕ d ⊗ b) (get_or_past (row_coins coins tau i) e 0 (omega (arith, before, past))) (get_or_past (drop 1 g) e 0 (omega (arith, few, past, length-drop 1 g)))
                ∙ ap (◌⊕◌ 0) (mul_zero d) ∙ add_zero 0)
          ];
    }

-- the value of a position stays, for a member of the coalition
same_value : (coins from to : List ℕ) (tau : ℕ) (coalition : List ℕ) (i a : ℕ) → length coins ≡ length from * tau → i < length from → length coalition ≤ tau
    → All (λ a. a < 256) coalition → All (λ a. a ≢ 0) coalition → Contains coalition a
    → val (position_polynomial to (partner_db coins from to tau coalition) tau i) a ≡ val (position_polynomial from coins tau i) a
same_value coins from to tau coalition i a long l few bytes nonzero member =
    let new = partner_db coins from to tau coalition in
    let rest = drop 1 (hiding coalition) in
    let f = get_or from i 0 in
    let t = get_or to i 0 in
    let m = a ⊗ val (row_coins coins tau i) a in
    let size = length-hiding coalition bytes nonzero in
    let fit = row_within i (length from) tau l in
    let room = length-row_coins coins tau i (omega (arith, fit, long)) in
    let changed : val (row_coins new tau i) a ≡ val (row_coins coins tau i) a ⊕ (f ⊕ t) ⊗ val rest a =
    val-scaled_sum _ (row_coins coins tau i) rest (f ⊕ t) a (coins_changed coins from to tau coalition i long l (omega (arith, size, few)))
    (omega (arith, size, few, room, length-drop 1 (hiding coalition))) in
    let one : a ⊗ ((f ⊕ t) ⊗ val rest a) ≡ f ⊗ 1 ⊕ t ⊗ 1 =
    mul_left_comm a (f ⊕ t) (val rest a) ∙ ap (◌⊗◌ (f ⊕ t)) (hiding_rest coalition a bytes nonzero member) ∙ add_mul f t 1 in
    let cancel : t ⊗ 1 ⊕ (m ⊕ (f ⊗ 1 ⊕ t ⊗ 1)) ≡ f ⊗ 1 ⊕ m = simp sums in
    val-position to new tau i a
    ∙ ap (◌⊕◌ (t ⊗ 1)) (ap (◌⊗◌ a) changed ∙ mul_add a _ _ ∙ ap (◌⊕◌ m) one)
    ∙ cancel ∙ sym (val-position from coins tau i a)

-- a member's share of `to` from the partner is that of `from` from the coins
pub same_share : (coins from to : List ℕ) (tau : ℕ) (coalition : List ℕ) (a : ℕ) → length coins ≡ length from * tau → length to ≡ length from → length coalition ≤ tau
    → All (λ a. a < 256) coalition → All (λ a. a ≢ 0) coalition → Contains coalition a
    → share to (partner_db coins from to tau coalition) tau a ≡ share from coins tau a
same_share coins from to tau coalition a long shape few bytes nonzero member =
    let new = partner_db coins from to tau coalition in
    let size = length-share to new tau a in
    ext_get_or 0 (share to new tau a) (share from coins tau a) (size ∙ shape ∙ sym (length-share from coins tau a)) (λ i l.
    let within : i < length from = omega (arith, size, shape, l) in
    share_at to new tau a i (omega (arith, size, l)) ∙ same_value coins from to tau coalition i a long within few bytes nonzero member
    ∙ sym (share_at from coins tau a i within))

-- the partner of the partner, for the databases exchanged, is the coins
pub partner_db_back : (coins from to : List ℕ) (tau : ℕ) (coalition : List ℕ) → partner_db (partner_db coins from to tau coalition) to from tau coalition ≡ coins
unfolding difference
partner_db_back coins from to tau coalition =
    let once = partner_db coins from to tau coalition in
    let size = length-partner_db coins from to tau coalition in
    let long = length-partner_db once to from tau coalition ∙ size in
    ext_get_or 0 (partner_db once to from tau coalition) coins long (λ j l.
    let within : j < length coins = omega (arith, long, l) in
    let x = difference (hiding coalition) from to tau j in
    partner_db_at once to from tau coalition j (omega (arith, size, within))
    ∙ ap₂ ◌⊕◌ (partner_db_at coins from to tau coalition j within) (ap (◌⊗◌ (coef (hiding coalition) (j % tau + 1))) (add_comm (get_or to (j / tau) 0) (get_or from (j / tau) 0)))
    ∙ add_assoc (get_or coins j 0) x x ∙ ap (◌⊕◌ (get_or coins j 0)) (add_self x) ∙ add_zero _)

-- coins stay coins
AreCoins-partner_db : (n : ℕ) (coins from to : List ℕ) (tau : ℕ) (coalition : List ℕ) → AreCoins n coins → AreCoins n (partner_db coins from to tau coalition)
unfolding difference
AreCoins-partner_db n coins from to tau coalition h =
    let size = length-partner_db coins from to tau coalition in
    record {
      size = size ∙ h.size;
      bytes = All-from_get_or (λ c. c < 256) (partner_db coins from to tau coalition) 0 (λ j l.
          let within : j < length coins = omega (arith, size, l) in
          rw (partner_db_at coins from to tau coalition j within) (add_lt _ _ (h.bytes j 0 within) (mul_lt _ _)));
    }

-- so to take partners is a bijection
pub IsBijection-partner_db : (n : ℕ) (from to : List ℕ) (tau : ℕ) (coalition : List ℕ) → IsBijection n (λ coins. partner_db coins from to tau coalition)
IsBijection-partner_db n from to tau coalition = record {
  inverse = λ coins. partner_db coins to from tau coalition;
  into = λ coins h. AreCoins-partner_db n coins from to tau coalition h;
  back = λ coins h. AreCoins-partner_db n coins to from tau coalition h;
  left = λ coins h. partner_db_back coins from to tau coalition;
  right = λ coins h. partner_db_back coins to from tau coalition;
}

-- what is written is the partner
pub partner_db_is : (new old g coins from to : List ℕ) (tau : ℕ) (coalition : List ℕ) → length new ≡ length old
    → IsAdded new old (difference g from to tau) 0 (length old) → old ≡ coins → g ≡ hiding coalition → new ≡ partner_db coins from to tau coalition
partner_db_is new old g coins from to tau coalition long written start same =
    let size = length-partner_db coins from to tau coalition in
    let equal = ap length start in
    ext_get_or 0 new (partner_db coins from to tau coalition) (long ∙ equal ∙ sym size) (λ j l.
    written.added j (omega arith) (omega (arith, long, l))
    ∙ ap₂ (λ c p. get_or c j 0 ⊕ difference p from to tau j) start same
    ∙ sym (partner_db_at coins from to tau coalition j (omega (arith, long, equal, l))))
