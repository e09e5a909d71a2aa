-- A header that comes in pieces, behind bytes that begin a session: how far a piece is right.
use Rattle.std.proofs.Common.{◌≡◌, ℕ, suc, ◌+◌, ◌-◌, ◌<◌, ◌≤◌, List, [], ◌++◌, length, take, drop, min, refl, sym, subst, ap, ◌∙◌, inl, inr, arith, append_assoc, length-append, length-drop}
use Rattle.std.proofs.Math.Seq.{take-add, take-append-add}
use Rattle.std.proofs.lemmas.Bool.{cases_lt}
use Rattle.std.proofs.lemmas.List.{append-nil, length-take, length-take-le, nil_from_length, take-append-le, take_all}
use Rattle.wire_frames.specs.Form.{Starts, StopsAt}
use Rattle.wire_frames.specs.RecordsReader.{Refuses}
use Rattle.wire_frames.specs.Session.{IsSession}
use Rattle.std.proofs.lemmas.List.{take-take}

-- what stands behind these bytes in a session has this form, as far as so many bytes go
pub record IsBehind {A : Type 0} (F : List ℕ → A → Type 0) (size : ℕ) (prefix : List ℕ) : Type 0 where
  pub sized : (bytes : List ℕ) (value : A) → F bytes value → length bytes ≡ size
  pub begins : (head : List ℕ) → Starts F head → Starts IsSession (prefix ++ head)
  pub part : (head : List ℕ) → length head ≤ size → Starts IsSession (prefix ++ head) → Starts F head

-- a place behind the first part of some bytes
take-behind_first : (first more : List ℕ) (n : ℕ) → length first ≤ n → take n (first ++ more) ≡ first ++ take (n - length first) more
take-behind_first first more n h =
    let split : n ≡ length first + (n - length first) = omega arith in
    ap (λ (m : ℕ). take m (first ++ more)) split ∙ take-append-add first more (n - length first)

-- a header is filled up to its size, and no further
pub filled_short : (old piece read filled : List ℕ) (count size : ℕ) → read ≡ filled → filled ≡ old ++ take count piece → count ≡ min (size - length old) (length piece) → length old < size → length read ≤ size
filled_short old piece read filled count size is_read is count_is short =
    omega (arith, ap length is_read, ap length is, length-append old (take count piece), length-take count piece, count_is, short)

-- the bytes before a piece were right
pub place_behind : {A : Type 0} {F : List ℕ → A → Type 0} (head more : List ℕ) (place : ℕ) → Starts F head → StopsAt F (head ++ more) place → length head ≤ place
place_behind {A} {F} head more place right stops = elim (cases_lt place (length head)) [
  | inl less ↦
      let here : take (length head) (head ++ more) ≡ head = take-append-le (length head) head more (omega arith) ∙ take_all (length head) head (omega arith) in
      absurd (stops.longest (length head) less (omega (arith, length-append head more)) (subst (Starts F) (sym here) right))
  | inr enough ↦ enough
]

-- a header that stops being right within a piece
pub head_refuses : {A : Type 0} {F : List ℕ → A → Type 0} (size : ℕ) (prefix head piece : List ℕ) (count place : ℕ) → IsBehind F size prefix → count ≤ length piece → length head + count ≤ size
    → Starts F head → StopsAt F (head ++ take count piece) place → place < length (head ++ take count piece) → Refuses (prefix ++ head) piece (place - length head)
head_refuses {A} {F} size prefix head piece count place behind inside short right stops before =
    let after : length head ≤ place = place_behind head (take count piece) place right stops in
    let i = place - length head in
    let long = length-append head (take count piece) in
    let taken = length-take-le count piece inside in
    let regroup : (n : ℕ) → n ≤ count → (prefix ++ head) ++ take n piece ≡ prefix ++ (head ++ take n (take count piece)) =
    λ n le. append_assoc prefix head (take n piece) ∙ ap (λ (l : List ℕ). prefix ++ (head ++ l)) (sym (take-take n count piece le)) in
    let here : take place (head ++ take count piece) ≡ head ++ take i (take count piece) = take-behind_first head (take count piece) place after in
    let next_is : suc place - length head ≡ i + 1 = omega (arith, after) in
    let there : take (suc place) (head ++ take count piece) ≡ head ++ take (i + 1) (take count piece) =
    take-behind_first head (take count piece) (suc place) (omega (arith, after)) ∙ ap (λ (n : ℕ). head ++ take n (take count piece)) next_is in
    record {
      before = omega (arith, after, before, long, taken);
      begins = subst (Starts IsSession) (sym (regroup i (omega (arith, after, before, long, taken)))) (behind.begins (head ++ take i (take count piece)) (subst (Starts F) here stops.begins));
      longest = λ s.
          let le : i + 1 ≤ count = omega (arith, after, before, long, taken) in
          let fits : length (head ++ take (i + 1) (take count piece)) ≤ size = omega (arith, length-append head (take (i + 1) (take count piece)), length-take-le (i + 1) (take count piece) (omega (arith, taken, le)), le, short) in
          let part = behind.part (head ++ take (i + 1) (take count piece)) fits (subst (Starts IsSession) (regroup (i + 1) le) s) in
          stops.longest (suc place) (omega arith) (omega (arith, before)) (subst (Starts F) (sym there) part);
    }

-- a header that is right as far as it has come, and isn't whole
pub head_goes_on : {A : Type 0} {F : List ℕ → A → Type 0} (size : ℕ) (bytes : List ℕ) (place : ℕ) → ((l : List ℕ) (value : A) → F l value → length l ≡ size) → StopsAt F bytes place
    → length bytes ≤ place → ((value : A) → F bytes value → ⊥) → (length bytes < size) × Starts F bytes
head_goes_on {A} {F} size bytes place sized stops all none =
    let whole : take place bytes ≡ bytes = take_all place bytes all in
    let s = subst (Starts F) whole stops.begins in
    (less s, s)
  where
    less : Starts F bytes → length bytes < size
    less s = elim (cases_lt (length bytes) size) [
      | inl h ↦ h
      | inr h ↦
          let nothing : s.rest ≡ [] = nil_from_length s.rest (omega (arith, sized (bytes ++ s.rest) s.value s.whole, length-append bytes s.rest)) in
          absurd (none s.value (subst (λ (l : List ℕ). F l s.value) (ap (λ (l : List ℕ). bytes ++ l) nothing ∙ append-nil bytes) s.whole))
    ]

-- the bytes of a piece up to a place, and then some of the rest
pub piece_more : (old seen new piece : List ℕ) (at count : ℕ) → seen ≡ old ++ take at piece → new ≡ seen ++ take count (drop at piece) → new ≡ old ++ take (at + count) piece
piece_more old seen new piece at count before more =
    more ∙ ap (λ (l : List ℕ). l ++ take count (drop at piece)) before ∙ append_assoc old (take at piece) (take count (drop at piece))
    ∙ ap (λ (l : List ℕ). old ++ l) (sym (take-add at count piece))

-- the rest of a piece is right up to a place: so is the piece, up to a later one
pub refuses_more : (old seen piece : List ℕ) (at right : ℕ) → seen ≡ old ++ take at piece → Refuses seen (drop at piece) right → Refuses old piece (at + right)
refuses_more old seen piece at right before h =
    let next : at + (right + 1) ≡ at + right + 1 = omega arith in
    record {
      before = omega (arith, h.before, length-drop at piece);
      begins = subst (Starts IsSession) (piece_more old seen (seen ++ take right (drop at piece)) piece at right before refl) h.begins;
      longest = λ s. h.longest (subst (Starts IsSession)
          (ap (λ (n : ℕ). old ++ take n piece) (sym next) ∙ sym (piece_more old seen (seen ++ take (right + 1) (drop at piece)) piece at (right + 1) before refl)) s);
    }
