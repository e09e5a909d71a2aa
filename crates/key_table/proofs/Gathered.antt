-- A list that is gathered, with one more pair; and what a result tells of a value.
use Rattle.std.proofs.Common.{◌≡◌, ℕ, ◌+◌, ◌<◌, Bool, true, false, if◌then◌else◌, List, [], ◌∷◌, ◌++◌, length, get_or, refl, sym, ap, ap₂, ◌∙◌, arith, true≢false, Result, Ok, Err}
use Rattle.std.specs.List.{range_with_len}
use Rattle.std.specs.Result.{IfErr, IfOk, is_ok}
use Rattle.std.proofs.lemmas.List.{get_or-map, get_or_append_left, get_or_push, length-map, length_push, map-id, map_push}
use Rattle.std.proofs.lemmas.List.Elements.{All-push}
use Rattle.std.proofs.lemmas.List.FromFn.{get_or-range_with_len, length-range_with_len, map-range_with_len_more}
use Rattle.key_table.specs.Entry.{Pair, AreBytes}
use Rattle.key_table.specs.Held.{AreGathered, Held}
use Rattle.key_table.specs.Digest.{number_of}
use Rattle.key_table.specs.Looked.{pair}
use Rattle.key_table.specs.Places.{digest_at}
use Rattle.key_table.specs.declared.place.Place.{Place}
use Rattle.key_table.specs.declared.TheConstants.{MOST_PAIRS}

-- so many bytes of digests, and these pairs
abbrev pub as_held : ℕ → List Pair → Held
as_held size pairs = record { size = size; pairs = pairs }

-- the first of two values, where the test is true
pub if_true : {X : Type 0} (b : Bool) (x y z : X) → x ≡ (if b then y else z) → b ≡ true → x ≡ y
if_true true x y z h e = h
if_true false x y z h e = absurd (true≢false (sym e))

-- what holds of a success
pub told_ok : {X T E : Type 0} (r : Result T E) (x y : X) → IfOk r (λ _. x ≡ y) → is_ok r ≡ true → x ≡ y
told_ok (Ok t) x y h e = h
told_ok (Err f) x y h e = absurd (true≢false (sym e))

-- what holds of a failure
pub told_err : {X T E : Type 0} (r : Result T E) (x y : X) → IfErr r (λ _. x ≡ y) → is_ok r ≡ false → x ≡ y
told_err (Ok t) x y h e = absurd (true≢false e)
told_err (Err f) x y h e = h

-- the places of one more pair
places_push : (n : ℕ) → range_with_len 0 (n + 1) ≡ range_with_len 0 n ++ n ∷ []
places_push n =
    sym (map-id (range_with_len 0 (n + 1))) ∙ map-range_with_len_more (λ (k : ℕ). k) 0 n n (omega arith)
    ∙ ap (λ ks. ks ++ n ∷ []) (map-id (range_with_len 0 n))

-- one more pair with its place
pub gathered_push : (held : Held) (order : List Place) (digest value : List ℕ) (place : Place) → AreGathered held order → length digest ≡ held.size
    → AreBytes digest → length held.pairs < MOST_PAIRS → place.place ≡ length held.pairs → place.number ≡ number_of digest
    → AreGathered (as_held held.size (held.pairs ++ pair digest value ∷ [])) (order ++ place ∷ [])
gathered_push held order digest value place h long bytes fewer here number =
    let n = length held.pairs in
    let more = held.pairs ++ pair digest value ∷ [] in
    let count = length_push held.pairs (pair digest value) in
    let new : place.number ≡ number_of (digest_at more place.place) =
    number ∙ ap number_of (sym (ap (digest_at more) here ∙ ap (λ (p : Pair). p.digest) (get_or_push held.pairs (pair digest value) (pair [] []) n refl))) in
    record {
      least = h.least;
      most = h.most;
      sizes = All-push (λ p. length p.digest ≡ held.size) held.pairs (pair digest value) h.sizes long;
      bytes = All-push (λ p. AreBytes p.digest) held.pairs (pair digest value) h.bytes bytes;
      few = omega (arith, count, fewer);
      places = map_push (λ (p : Place). p.place) order place ∙ ap₂ (λ ks k. ks ++ k ∷ []) h.places here ∙ sym (places_push n) ∙ ap (range_with_len 0) (sym count);
      numbers = All-push (λ (p : Place). p.number ≡ number_of (digest_at more p.place)) order place
          (λ k d lt.
          let inside : k < n = omega (arith, lt, length-map order (λ (p : Place). p.place), ap length h.places, length-range_with_len 0 n) in
          let own : (get_or order k d).place ≡ k =
          sym (get_or-map (λ (p : Place). p.place) order k d 0 lt) ∙ ap (λ ks. get_or ks k 0) h.places ∙ get_or-range_with_len 0 n k 0 inside ∙ omega arith in
          h.numbers k d lt
          ∙ ap number_of (ap (digest_at held.pairs) own
          ∙ sym (ap (digest_at more) own ∙ ap (λ (p : Pair). p.digest) (get_or_append_left held.pairs (pair digest value ∷ []) (pair [] []) k inside))))
          new;
    }
