-- Which bytes begin a number of a field: the rule, and the loop that follows it.
use Rattle.std.proofs.Common.{◌≡◌, ℕ, suc, ◌+◌, ◌-◌, ◌*◌, ◌^◌, ◌<◌, ◌≤◌, List, [], ◌∷◌, ◌++◌, length, take, drop, get_or, All, refl, sym, subst, ap, ap₂, ◌∙◌, inl, inr, arith, length-append, length-drop}
use Rattle.std.proofs.Math.Nat.{add-mul, mul-le-mul_right, mul_assoc, pow-le-pow_right}
use Rattle.std.proofs.lemmas.Bool.{cases_lt}
use Rattle.std.proofs.lemmas.Nat.{pow-add}
use Rattle.std.proofs.lemmas.List.{get_or-drop, length-take, length-take-le, take_all, take_more}
use Rattle.std.proofs.lemmas.List.Elements.{All-append, All-drop, All-take}
use Rattle.std.specs.Int.{bytes_high_first}
use Rattle.wire_frames.specs.declared.field.Number.{Number}
use Rattle.wire_frames.specs.Field.{IsField, IsNumber}
use Rattle.wire_frames.specs.Form.{Starts, StopsAt, StopsWithin}
use Rattle.wire_frames.proofs.Digits.{IsByte, number, pow_pos, pow_up, length-digits, digits_are_bytes, number_below, digits-number, number-digits, number-append}
use Rattle.wire_frames.proofs.Prefixes.{All-behind, stops-at}
use Rattle.std.proofs.lemmas.List.{take-take}

-- a number's bytes are as many as its field has
pub length_number : (f : Number) (bytes : List ℕ) (v : ℕ) → IsNumber f bytes v → length bytes ≡ f.width
length_number f bytes v h = ap length h.spelled ∙ length-digits f.width v

-- some number of the field is among those from floor up, of which there are so many
pub record IsRight (f : Number) (floor spread : ℕ) : Type 0 where
  pub low : floor ≤ f.most
  pub high : f.least < floor + spread

-- the numbers that begin with some bytes, with k bytes to come, go from `number part * 256 ^ k` up, and are 256 ^ k:
-- bytes that begin a number of the field leave one of these in range
pub right_from_starts : (f : Number) (part : List ℕ) → IsField f → Starts (IsNumber f) part
    → IsRight f (number part * 256 ^ (f.width - length part)) (256 ^ (f.width - length part))
right_from_starts f part field s =
    let h = s.whole in
    let long = length_number f (part ++ s.rest) s.value h in
    let parts = length-append part s.rest in
    let to_come : f.width - length part ≡ length s.rest = omega arith in
    let below : s.value < 256 ^ f.width = omega (arith, field.fits, h.most) in
    let value : number (part ++ s.rest) ≡ s.value = ap number h.spelled ∙ number-digits f.width s.value below in
    let split = number-append part s.rest in
    let bytes : All IsByte (part ++ s.rest) = subst (All IsByte) (sym h.spelled) (digits_are_bytes f.width s.value) in
    let rest = number_below s.rest (All-behind IsByte part s.rest bytes) in
    rw to_come record {
      low = omega (arith, value, split, h.most);
      high = omega (arith, value, split, rest, h.least);
    }

-- a number of the field among those that begin with the bytes
starts_at : (f : Number) (part : List ℕ) (v : ℕ) → All IsByte part → length part ≤ f.width → f.least ≤ v → v ≤ f.most
    → number part * 256 ^ (f.width - length part) ≤ v → v < number part * 256 ^ (f.width - length part) + 256 ^ (f.width - length part)
    → Starts (IsNumber f) part
starts_at f part v bytes short least most low high =
    let k = f.width - length part in
    let floor = number part * 256 ^ k in
    let rest = bytes_high_first k (v - floor) in
    let long : length rest ≡ k = length-digits k (v - floor) in
    let all = length-append part rest in
    let width : length (part ++ rest) ≡ f.width = omega arith in
    let value : number (part ++ rest) ≡ v =
    number-append part rest ∙ rw (long, number-digits k (v - floor) (omega arith)) (omega arith) in
    let spelled : bytes_high_first (length (part ++ rest)) (number (part ++ rest)) ≡ part ++ rest =
    digits-number (part ++ rest) (All-append IsByte part rest bytes (digits_are_bytes k (v - floor))) in
    record {
      rest = rest;
      value = v;
      whole = record { least = least; most = most; spelled = sym spelled ∙ ap₂ bytes_high_first width value };
    }

-- and where one of these is in range the bytes begin a number of the field
pub starts_from_right : (f : Number) (part : List ℕ) → IsField f → All IsByte part → length part ≤ f.width
    → IsRight f (number part * 256 ^ (f.width - length part)) (256 ^ (f.width - length part)) → Starts (IsNumber f) part
starts_from_right f part field bytes short right = elim (cases_lt f.least (number part * 256 ^ (f.width - length part))) [
  | inl above ↦
      let pos = pow_pos (f.width - length part) in
      starts_at f part (number part * 256 ^ (f.width - length part)) bytes short (omega arith) right.low (omega arith) (omega arith)
  | inr below ↦ starts_at f part f.least bytes short (omega arith) field.some below right.high
]

-- the loop over the bytes of a field, at byte i of the bytes from the field on: `floor` is the least number that begins
-- with those before it
pub record IsFloor (f : Number) (bytes : List ℕ) (i floor : ℕ) : Type 0 where
  pub reach : i ≤ length bytes
  pub worth : floor ≡ number (take i bytes) * 256 ^ (f.width - i)
  pub right : Starts (IsNumber f) (take i bytes)

-- before the first byte is read the least number is 0
pub floor_none : (f : Number) (bytes : List ℕ) → IsField f → IsFloor f bytes 0 0
floor_none f bytes field = record {
  reach = omega arith;
  worth = omega arith;
  right = record { rest = bytes_high_first f.width f.least; value = f.least; whole = record { least = omega arith; most = field.some; spelled = refl } };
}

-- one byte more
pub worth_more : (width : ℕ) (bytes : List ℕ) (i floor : ℕ) → i < width → i < length bytes → floor ≡ number (take i bytes) * 256 ^ (width - i)
    → floor + get_or bytes i 0 * 256 ^ (width - 1 - i) ≡ number (take (i + 1) bytes) * 256 ^ (width - (i + 1))
worth_more width bytes i floor lt inside worth =
    let prefix = take i bytes in
    let b = get_or bytes i 0 in
    let k = width - (i + 1) in
    let more : take (i + 1) bytes ≡ prefix ++ b ∷ [] = take_more bytes i 0 inside in
    let value : number (prefix ++ b ∷ []) ≡ number prefix * 256 + b = number-append prefix (b ∷ []) ∙ omega arith in
    let same : width - 1 - i ≡ k = omega arith in
    let before : width - i ≡ suc k = omega arith in
    let up : number prefix * 256 ^ suc k ≡ number prefix * 256 * 256 ^ k = ap (λ (x : ℕ). number prefix * x) (pow_up k) ∙ sym (mul_assoc (number prefix) 256 (256 ^ k)) in
    let split = add-mul (number prefix * 256) b (256 ^ k) in
    let was : floor ≡ number prefix * 256 ^ suc k = worth ∙ ap (λ (x : ℕ). number prefix * 256 ^ x) before in
    rw (same, more, value) (omega arith)

-- the numbers that begin with the bytes so far have no more bytes than the field
pub floor_room : (width : ℕ) (bytes : List ℕ) (i : ℕ) → i ≤ width → i ≤ length bytes → All IsByte bytes
    → number (take i bytes) * 256 ^ (width - i) + 256 ^ (width - i) ≤ 256 ^ width
floor_room width bytes i le inside all =
    let below = number_below (take i bytes) (All-take IsByte i bytes all) in
    let long = length-take-le i bytes inside in
    let few : number (take i bytes) + 1 ≤ 256 ^ i = subst (λ (n : ℕ). number (take i bytes) + 1 ≤ 256 ^ n) long (omega arith) in
    let most = mul-le-mul_right (256 ^ (width - i)) few in
    let split = add-mul (number (take i bytes)) 1 (256 ^ (width - i)) in
    let whole : 256 ^ i * 256 ^ (width - i) ≡ 256 ^ width = sym (pow-add 256 i (width - i)) ∙ ap (λ (x : ℕ). 256 ^ x) (omega arith) in
    omega (arith, most, split, whole)

-- a field of at most 8 bytes has numbers below 2 ^ 64
pub width_fits : (width : ℕ) → width ≤ 8 → 256 ^ width ≤ 18446744073709551616
width_fits width h = pow-le-pow_right (omega arith) h

-- a turn of the loop: what byte i adds to the floor, and how many numbers begin with the bytes up to it
pub record IsTurn (f : Number) (bytes : List ℕ) (i floor added spread : ℕ) : Type 0 where
  pub field : IsField f
  pub all : All IsByte bytes
  pub to_come : i < f.width
  pub inside : i < length bytes
  pub so_far : IsFloor f bytes i floor
  pub added_is : added ≡ get_or bytes i 0 * 256 ^ (f.width - 1 - i)
  pub spread_is : spread ≡ 256 ^ (f.width - 1 - i)

-- a turn at a byte of a slice
pub turn_at : (f : Number) (bytes : List ℕ) (at i floor byte spread : ℕ) → IsField f → All IsByte bytes → i < f.width → at + i < length bytes
    → IsFloor f (drop at bytes) i floor → byte ≡ get_or bytes (at + i) 0 → spread ≡ 256 ^ (f.width - 1 - i)
    → IsTurn f (drop at bytes) i floor (byte * spread) spread
turn_at f bytes at i floor byte spread field all to_come inside so_far byte_is spread_is = record {
  field = field;
  all = All-drop IsByte at bytes all;
  to_come = to_come;
  inside = omega (arith, length-drop at bytes);
  so_far = so_far;
  added_is = ap₂ (λ (x y : ℕ). x * y) (byte_is ∙ sym (get_or-drop at bytes i 0)) spread_is;
  spread_is = spread_is;
}

-- the sum that the loop forms, and what it compares, fit
pub turn_fits : (f : Number) (bytes : List ℕ) (i floor added spread : ℕ) → IsTurn f bytes i floor added spread
    → (0 < spread) × (floor + added + spread ≤ 18446744073709551616)
turn_fits f bytes i floor added spread t =
    let worth = worth_more f.width bytes i floor t.to_come t.inside t.so_far.worth in
    let room = floor_room f.width bytes (i + 1) (omega (arith, t.to_come)) (omega (arith, t.inside)) t.all in
    let same : f.width - 1 - i ≡ f.width - (i + 1) = omega arith in
    let here : 256 ^ (f.width - 1 - i) ≡ 256 ^ (f.width - (i + 1)) = ap (λ (x : ℕ). 256 ^ x) same in
    let most = width_fits f.width t.field.narrow in
    let pos = pow_pos (f.width - 1 - i) in
    (omega (arith, pos, t.spread_is), omega (arith, worth, room, here, most, t.added_is, t.spread_is))

-- what is in range one byte on is what the loop compares
range_more : (f : Number) (bytes : List ℕ) (i floor added spread : ℕ) → IsTurn f bytes i floor added spread
    → (length (take (i + 1) bytes) ≡ i + 1) × (number (take (i + 1) bytes) * 256 ^ (f.width - length (take (i + 1) bytes)) ≡ floor + added)
    × (256 ^ (f.width - length (take (i + 1) bytes)) ≡ spread)
range_more f bytes i floor added spread t =
    let long = length-take-le (i + 1) bytes (omega (arith, t.inside)) in
    let worth = worth_more f.width bytes i floor t.to_come t.inside t.so_far.worth in
    let same : f.width - length (take (i + 1) bytes) ≡ f.width - (i + 1) = omega arith in
    let again : f.width - length (take (i + 1) bytes) ≡ f.width - 1 - i = omega arith in
    (long, ap (λ (x : ℕ). number (take (i + 1) bytes) * 256 ^ x) same ∙ sym worth ∙ ap (λ (x : ℕ). floor + x) (sym t.added_is), ap (λ (x : ℕ). 256 ^ x) again ∙ sym t.spread_is)

-- a byte that leaves a number in range
pub turn_goes_on : (f : Number) (bytes : List ℕ) (i floor added spread : ℕ) → IsTurn f bytes i floor added spread → IsRight f (floor + added) spread
    → IsFloor f bytes (i + 1) (floor + added)
turn_goes_on f bytes i floor added spread t right =
    let range = range_more f bytes i floor added spread t in
    let same : IsRight f (number (take (i + 1) bytes) * 256 ^ (f.width - length (take (i + 1) bytes))) (256 ^ (f.width - length (take (i + 1) bytes))) =
    rw (range.1, range.2) right in
    record {
      reach = omega (arith, t.inside);
      worth = ap (λ (x : ℕ). floor + x) t.added_is ∙ worth_more f.width bytes i floor t.to_come t.inside t.so_far.worth;
      right = starts_from_right f (take (i + 1) bytes) t.field (All-take IsByte (i + 1) bytes t.all) (omega (arith, range.0, t.to_come)) same;
    }

-- a byte that leaves none is where the bytes stop being right
pub turn_stops : (f : Number) (bytes : List ℕ) (i floor added spread : ℕ) → IsTurn f bytes i floor added spread → (IsRight f (floor + added) spread → ⊥)
    → StopsAt (IsNumber f) (take f.width bytes) i
turn_stops f bytes i floor added spread t wrong =
    let short = take-take i f.width bytes (omega (arith, t.to_come)) in
    let next : suc i ≡ i + 1 = omega arith in
    let more : take (suc i) (take f.width bytes) ≡ take (i + 1) bytes = take-take (suc i) f.width bytes (omega (arith, t.to_come)) ∙ ap (λ (n : ℕ). take n bytes) next in
    let range = range_more f bytes i floor added spread t in
    stops-at (IsNumber f) (take f.width bytes) i (omega (arith, length-take f.width bytes, t.to_come, t.inside)) (rw short t.so_far.right)
    (λ _ s.
    let right = right_from_starts f (take (i + 1) bytes) t.field (subst (Starts (IsNumber f)) more s) in
    wrong (rw (range.1, range.2) at right))

-- where the bytes end, all of them are right
pub floor_ends : (f : Number) (bytes : List ℕ) (i floor : ℕ) → i < f.width → length bytes ≤ i → IsFloor f bytes i floor
    → StopsAt (IsNumber f) (take f.width bytes) i
floor_ends f bytes i floor lt ended so_far =
    let all = take_all f.width bytes (omega (arith, so_far.reach)) in
    stops-at (IsNumber f) (take f.width bytes) i (rw all so_far.reach) (rw all so_far.right)
    (λ more _. absurd (omega (arith, rw all at more)))

-- a field read whole
pub floor_whole : (f : Number) (bytes : List ℕ) (floor : ℕ) → IsField f → All IsByte bytes → IsFloor f bytes f.width floor → IsNumber f (take f.width bytes) floor
floor_whole f bytes floor field all so_far =
    let long = length-take-le f.width bytes so_far.reach in
    let none : f.width - f.width ≡ 0 = omega arith in
    let worth : floor ≡ number (take f.width bytes) = so_far.worth ∙ rw none (omega arith) in
    let right = right_from_starts f (take f.width bytes) field so_far.right in
    let here = rw (long, none) at right in
    let spelled = digits-number (take f.width bytes) (All-take IsByte f.width bytes all) in
    record {
      least = omega (arith, worth, here.high);
      most = omega (arith, worth, here.low);
      spelled = sym spelled ∙ ap₂ bytes_high_first long (sym worth);
    }

-- how far a field is right, from its own place to that in the bytes
pub stops_within : {A : Type 0} (F : List ℕ → A → Type 0) (at width : ℕ) (bytes : List ℕ) (i : ℕ) → i < width
    → StopsAt F (take width (drop at bytes)) i → StopsWithin F at width bytes (at + i)
stops_within F at width bytes i lt stops = record {
  after = omega arith;
  before = omega arith;
  stops = subst (StopsAt F (take width (drop at bytes))) (omega arith) stops;
}
