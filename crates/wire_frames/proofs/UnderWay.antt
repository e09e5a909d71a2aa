-- A session gains a record.
use Rattle.std.proofs.Common.{◌≡◌, ℕ, ◌+◌, ◌*◌, ◌<◌, ◌≤◌, List, [], ◌∷◌, ◌++◌, length, All, refl, sym, subst, ap, ◌∙◌, arith, length-append}
use Rattle.std.specs.Prelude.{Option, Some, None}
use Rattle.std.proofs.Math.Nat.{mul-le-mul_right}
use Rattle.std.proofs.lemmas.List.Elements.{All-push}
use Rattle.wire_frames.specs.Sizes.{answer_len}
use Rattle.wire_frames.specs.declared.session.SessionParams.{SessionParams}
use Rattle.wire_frames.specs.Records.{Kept, extended, closed_by}
use Rattle.wire_frames.specs.Limits.{IsInRange}
use Rattle.wire_frames.specs.Session.{Transcript, Fits, IsUnderWay}
use Rattle.wire_frames.proofs.Beginnings.{so_far}

-- with one more record that is present, the session is still under way
pub under_way_present : (p : SessionParams) (k : Kept) (bytes : List ℕ) → length k.closed < p.n → length bytes ≤ answer_len p.count p.s → All (λ b. b < 256) bytes → IsUnderWay p k
    → IsUnderWay p (closed_by (Some (extended bytes k).current) (extended bytes k))
under_way_present p k bytes few short below under_way =
    let is : k.current ++ bytes ≡ bytes = ap (λ (l : List ℕ). l ++ bytes) under_way.none_begun in
    let more : length (k.closed ++ Some (k.current ++ bytes) ∷ []) ≡ length k.closed + 1 = length-append k.closed (Some (k.current ++ bytes) ∷ []) in
    let room : (length k.closed + 1) * (answer_len p.count p.s) ≤ p.n * (answer_len p.count p.s) = grind arith in
    record {
      range = under_way.range;
      few = omega arith;
      fits = All-push (Fits (answer_len p.count p.s)) k.closed (Some (k.current ++ bytes)) under_way.fits (subst (λ (l : List ℕ). Fits (answer_len p.count p.s) (Some l)) (sym is) (short, below));
      none_begun = refl;
      record_room = omega (arith, under_way.record_room);
      byte_room = grind (arith, under_way.byte_room);
    }

-- nor is it at its end with one more that is absent
pub under_way_absent : (p : SessionParams) (k : Kept) → length k.closed < p.n → IsUnderWay p k → IsUnderWay p (closed_by None k)
under_way_absent p k few under_way =
    let width = answer_len p.count p.s in
    let more : length (k.closed ++ None ∷ []) ≡ length k.closed + 1 = length-append k.closed (None ∷ []) in
    let wider : length k.closed * width ≤ length (k.closed ++ None ∷ []) * width = mul-le-mul_right width (omega (arith, more)) in
    record {
      range = under_way.range;
      few = omega (arith, more, few);
      fits = All-push (Fits width) k.closed None under_way.fits tt;
      none_begun = refl;
      record_room = omega (arith, more, few, under_way.record_room);
      byte_room = omega (arith, wider, under_way.byte_room);
    }

-- where a record is to come there is room for it
pub room_for_one : (p : SessionParams) (k : Kept) → length k.closed < p.n → IsUnderWay p k → 0 < k.record_room
room_for_one p k few under_way = omega (arith, few, under_way.record_room)

-- the session has one more record where what is kept does
pub with_record : (p : SessionParams) (k new : Kept) (o : Option (List ℕ)) (t : Transcript) → new ≡ closed_by o k → so_far p k.closed ≡ t → so_far p new.closed ≡ record t { records = t.records ++ o ∷ [] }
with_record p k new o t is told = ap (λ (n : Kept). so_far p n.closed) is ∙ ap (λ (u : Transcript). record u { records = u.records ++ o ∷ [] }) told

-- records that are all there and fit make a session
pub under_way_whole : (p : SessionParams) (k : Kept) → IsInRange p → length k.closed ≡ p.n → All (Fits (answer_len p.count p.s)) k.closed → k.current ≡ [] → IsUnderWay p k
under_way_whole p k range all fits none_begun = record {
  range = range;
  few = omega arith;
  fits = fits;
  none_begun = none_begun;
  record_room = omega arith;
  byte_room = subst (λ (m : ℕ). p.n * (answer_len p.count p.s) ≤ m * (answer_len p.count p.s) + k.byte_room) (sym all) (omega arith);
}
