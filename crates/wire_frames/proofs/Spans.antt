-- Records as parts of one block of bytes.
use Rattle.std.proofs.Common.{◌≡◌, ℕ, ◌+◌, ◌-◌, ◌<◌, ◌≤◌, List, [], ◌∷◌, ◌++◌, length, map, drop, All, refl, sym, subst, ◌∙◌, ap, ap₂, arith, length-append}
use Rattle.std.specs.Prelude.{Option, Some, None, IfSome, slice_range}
use Rattle.std.specs.Option.{option_map}
use Rattle.std.proofs.lemmas.List.{map-append, take-append-le, take_all, drop_all}
use Rattle.std.proofs.lemmas.List.Elements.{All-head, All-tail, All-take, All-drop, All-map, All-append, All-push}
use Rattle.std.proofs.lemmas.Slice.{between_is}
use Rattle.wire_frames.specs.declared.records.Span.{Span}

-- a span lies within the bytes
abbrev pub Lies : List ℕ → Span → Type 0
Lies bytes s = (s.start ≤ s.end) × (s.end ≤ length bytes)

-- so it does for each record that is present
abbrev pub LiesWhere : List ℕ → Option Span → Type 0
LiesWhere bytes o = IfSome o (Lies bytes)

-- the bytes that a span stands for
abbrev pub at_span : List ℕ → Span → List ℕ
at_span bytes s = slice_range bytes s.start s.end

-- a part that lies within the bytes stays as it is while more come
pub slice_range-append : (bytes piece : List ℕ) (i j : ℕ) → j ≤ length bytes → slice_range (bytes ++ piece) i j ≡ slice_range bytes i j
slice_range-append bytes piece i j le = between_is (bytes ++ piece) i j ∙ ap (drop i) (take-append-le j bytes piece le) ∙ sym (between_is bytes i j)

-- a record stays as it is while more bytes come
at_span-append : (bytes piece : List ℕ) (o : Option Span) → LiesWhere bytes o → option_map (at_span (bytes ++ piece)) o ≡ option_map (at_span bytes) o
at_span-append bytes piece None lies = refl
at_span-append bytes piece (Some s) lies = ap (λ (l : List ℕ). Some l) (slice_range-append bytes piece s.start s.end lies.1)

-- the records stay as they are while more bytes come
pub at_spans-append : (bytes piece : List ℕ) (os : List (Option Span)) → All (LiesWhere bytes) os → map (option_map (at_span (bytes ++ piece))) os ≡ map (option_map (at_span bytes)) os
at_spans-append bytes piece [] lie = refl
at_spans-append bytes piece (o ∷ os) lie = ap₂ (λ (x : Option (List ℕ)) (xs : List (Option (List ℕ))). x ∷ xs) (at_span-append bytes piece o (All-head (LiesWhere bytes) o os lie)) (at_spans-append bytes piece os (All-tail (LiesWhere bytes) o os lie))

-- a part of what lies below a bound lies below it
at_span_below : (bytes : List ℕ) → All (λ b. b < 256) bytes → (o : Option Span) → IfSome (option_map (at_span bytes) o) (All (λ b. b < 256))
at_span_below bytes below None = tt
at_span_below bytes below (Some s) = All-take (λ b. b < 256) (s.end - s.start) (drop s.start bytes) (All-drop (λ b. b < 256) s.start bytes below)

-- each record is bytes
pub at_spans_below : (bytes : List ℕ) → All (λ b. b < 256) bytes → (os : List (Option Span)) → All (λ r. IfSome r (All (λ b. b < 256))) (map (option_map (at_span bytes)) os)
at_spans_below bytes below os = All-map (λ r. IfSome r (All (λ b. b < 256))) (option_map (at_span bytes)) os (λ k d lt. at_span_below bytes below _)

-- what lies within the bytes lies within more of them
lies_on : (bytes piece : List ℕ) (o : Option Span) → LiesWhere bytes o → LiesWhere (bytes ++ piece) o
lies_on bytes piece None lies = tt
lies_on bytes piece (Some s) lies = (lies.0, omega (arith, lies.1, length-append bytes piece))

-- all stays within the bytes while more come
pub lies_while_more : (bytes piece more : List ℕ) (start : ℕ) (os : List (Option Span)) → more ≡ bytes ++ piece → start ≤ length bytes → All (LiesWhere bytes) os → All (λ b. b < 256) bytes → All (λ b. b < 256) piece
    → (start ≤ length more) × All (LiesWhere more) os × All (λ b. b < 256) more
lies_while_more bytes piece more start os is within lie below new =
    let here : start ≤ length (bytes ++ piece) = omega (arith, within, length-append bytes piece) in
    subst (λ (l : List ℕ). (start ≤ length l) × All (LiesWhere l) os × All (λ b. b < 256) l) (sym is)
    (here, (λ k d lt. lies_on bytes piece _ (lie k d lt)), All-append (λ b. b < 256) bytes piece below new)

-- so it does with one more record
pub lie-push : (bytes : List ℕ) (os more : List (Option Span)) (o : Option Span) → more ≡ os ++ o ∷ [] → All (LiesWhere bytes) os → LiesWhere bytes o → All (LiesWhere bytes) more
lie-push bytes os more o is lie last =
    subst (All (LiesWhere bytes)) (sym is) (All-push (LiesWhere bytes) os o lie last)

-- the records are those so far and one more
pub at_spans-push : (bytes : List ℕ) (os more : List (Option Span)) (o : Option Span) → more ≡ os ++ o ∷ [] → map (option_map (at_span bytes)) more ≡ map (option_map (at_span bytes)) os ++ option_map (at_span bytes) o ∷ []
at_spans-push bytes os more o is = ap (map (option_map (at_span bytes))) is ∙ map-append (option_map (at_span bytes)) os (o ∷ [])

-- what lies up to the end of the bytes is what is behind its start
pub to_end : (bytes : List ℕ) (start end : ℕ) → end ≡ length bytes → slice_range bytes start end ≡ drop start bytes
to_end bytes start end is = between_is bytes start end ∙ ap (drop start) (take_all end bytes (omega (arith, is)))

-- and behind the end is nothing
pub none_behind : (bytes : List ℕ) (end : ℕ) → end ≡ length bytes → drop end bytes ≡ []
none_behind bytes end is = drop_all end bytes (omega (arith, is))

-- a list of so many elements has room for more, and so it does with these
pub room_kept : (len more room capacity new_len new_capacity : ℕ) → new_len ≡ len + more → more ≤ room → len + room ≤ capacity → capacity ≤ new_capacity → new_len + (room - more) ≤ new_capacity
room_kept len more room capacity new_len new_capacity is few fits grown = omega (arith, is, few, fits, grown)

-- no list is full that has room
pub has_room : (len more room capacity : ℕ) → more ≤ room → len + room ≤ capacity → capacity < len + more → ⊥
has_room len more room capacity few fits full = omega (arith, few, fits, full)

-- a capacity that is filled has no room for one more
pub full_now : (len capacity : ℕ) → capacity ≤ len → capacity < len + 1
full_now len capacity full = omega (arith, full)
