use Rattle.std.proofs.Common.{ℕ, ◌+◌, ◌-◌, ◌*◌, ◌/◌, ◌<◌, ◌≤◌, ◌≡◌, ◌≢◌, min, List, length, arith, refl, sym, subst, inl, inr}
use Rattle.std.specs.Int.{div_ceil}
use Rattle.std.proofs.lemmas.Grind.{div_ceil_times}
use Rattle.gf256.specs.Rows.{AreLanes}
use Rattle.shamir_share.specs.Lanes.{AreCells, AreSixteens, IsWidth, padded, part, sorted_place, spread}
use Rattle.shamir_share.proofs.LaneParts.{by_sixteens, narrow_values}
use Rattle.shamir_share.proofs.lanes.lane_values.Goals as goal

pub returns-then-width-eq2 : goal.returns-then-width-eq2
returns-then-width-eq2 g c =
    let rows = c.args.rows.now in
    let t = c.args.t in
    let a = c.args.products.now in
    let width_is : c.args.width ≡ 2 = c.if-width-eq2.true in
    let few : t ≤ 2 = let h = c.requires.wide (omega (arith, width_is)) in omega (arith, h, width_is) in
    narrow_values g.row.N rows c.twos.result t 2 a c.requires.whole few (omega arith)
    (subst (λ (w : ℕ). AreLanes g.row.N c.twos.result (λ k. part (padded rows t 0 w) 2 a (spread 0 (8 * w) k)) 0) width_is c.twos.ensures)

pub returns-then-width-eq4 : goal.returns-then-width-eq4
returns-then-width-eq4 g c =
    let rows = c.args.rows.now in
    let t = c.args.t in
    let a = c.args.products.now in
    let width_is : c.args.width ≡ 4 = c.if-width-eq4.true in
    let few : t ≤ 4 = let h = c.requires.wide (omega (arith, width_is)) in omega (arith, h, width_is) in
    narrow_values g.row.N rows c.fours.result t 4 a c.requires.whole few (omega arith)
    (subst (λ (w : ℕ). AreLanes g.row.N c.fours.result (λ k. part (padded rows t 0 w) 4 a (spread 0 (4 * w) k)) 0) width_is c.fours.ensures)

-- a width that isn't 16 is less
narrow : (width : ℕ) → IsWidth width → width ≢ 16 → width < 16
narrow width (inl e) a = omega (arith, e)
narrow width (inr (inl e)) a = omega (arith, e)
narrow width (inr (inr (inl e))) a = omega (arith, e)
narrow width (inr (inr (inr e))) a = absurd (a e)

-- sixteen coins may be read from the last row that is read on
room_of : (n t width len : ℕ) → AreSixteens n → IsWidth width → width ≢ 16 → 1 ≤ t → (n - 16 / width) * t + div_ceil t 16 * 16 ≤ len
    → (n / 16 - 1) * (16 * t) + ((width - 1) * (16 / width * t) + 0) + 16 ≤ len
room_of n t width len lanes fills a some room =
    let times = (div_ceil_times t 16 (omega arith)).0 in
    let Room : ℕ → Type 0 = λ (w : ℕ). (n - 16 / w) * t + div_ceil t 16 * 16 ≤ len → (n / 16 - 1) * (16 * t) + ((w - 1) * (16 / w * t) + 0) + 16 ≤ len in
    elim fills [
      | inl e ↦ subst Room (sym e) (λ h. omega (arith, by_sixteens n t 8 lanes (omega arith), h, times, some)) room
      | inr more ↦ elim more [
        | inl e ↦ subst Room (sym e) (λ h. omega (arith, by_sixteens n t 4 lanes (omega arith), h, times, some)) room
        | inr rest ↦ elim rest [
          | inl e ↦ subst Room (sym e) (λ h. omega (arith, by_sixteens n t 2 lanes (omega arith), h, times, some)) room
          | inr e ↦ absurd (a e)
        ]
      ]
    ]

-- narrow rows are cells
narrow_cells : (n : ℕ) (rows : List ℕ) (t width : ℕ) (places : List ℕ) → AreSixteens n → IsWidth width → width ≢ 16 → 1 ≤ t → t ≤ width → n * t ≤ length rows
    → (n - 16 / width) * t + div_ceil t 16 * 16 ≤ length rows → AreLanes 16 places (sorted_place width t) 0 → AreCells n rows t 0 width (16 / width * t) places
narrow_cells n rows t width places sixteens fills a some few whole room lanes =
    let all : t ≡ min (t - 0) width = omega (arith, few) in
    record {
      lanes = sixteens;
      fills = fills;
      shape = inr (refl, few);
      inside = some;
      steps = refl;
      sorted = subst (λ (n : ℕ). AreLanes 16 places (sorted_place width n) 0) all lanes;
      whole = whole;
      room = room_of n t width (length rows) sixteens fills a some room;
    }

-- what is left
eight : (width : ℕ) → IsWidth width → width ≢ 2 → width ≢ 4 → width ≢ 16 → width ≡ 8
eight width (inl e) a b d = absurd (a e)
eight width (inr (inl e)) a b d = absurd (b e)
eight width (inr (inr (inl e))) a b d = e
eight width (inr (inr (inr e))) a b d = absurd (d e)

pub returns : goal.returns
returns g c =
    let rows = c.args.rows.now in
    let t = c.args.t in
    let a = c.args.products.now in
    let width_is : c.args.width ≡ 8 = eight c.args.width c.requires.width c.if-width-eq2.false c.if-width-eq4.false c.if-width-eq16.false in
    let few : t ≤ 8 = let h = c.requires.wide (omega (arith, width_is)) in omega (arith, h, width_is) in
    narrow_values g.row.N rows c.eights.result t 8 a c.requires.whole few (omega arith)
    (subst (λ (w : ℕ). AreLanes g.row.N c.eights.result (λ k. part (padded rows t 0 w) 8 a (spread 0 (2 * w) k)) 0) width_is c.eights.ensures)

pub twos-requires : goal.twos-requires
twos-requires g c =
    let narrow_width = narrow c.args.width c.requires.width c.if-width-eq16.false in (
      omega (arith, g.N.fits),
      (
        narrow_cells g.row.N c.args.rows.now c.args.t c.args.width c.places_of.result c.requires.lanes c.requires.width c.if-width-eq16.false c.requires.some (c.requires.wide narrow_width)
            c.requires.whole c.requires.room c.places_of.ensures,
        omega (arith, c.if-width-eq2.true),
      ),
    )

pub fours-requires : goal.fours-requires
fours-requires g c =
    let narrow_width = narrow c.args.width c.requires.width c.if-width-eq16.false in (
      omega (arith, g.N.fits),
      (
        narrow_cells g.row.N c.args.rows.now c.args.t c.args.width c.places_of.result c.requires.lanes c.requires.width c.if-width-eq16.false c.requires.some (c.requires.wide narrow_width)
            c.requires.whole c.requires.room c.places_of.ensures,
        omega (arith, c.if-width-eq4.true),
      ),
    )

pub eights-requires : goal.eights-requires
eights-requires g c =
    let narrow_width = narrow c.args.width c.requires.width c.if-width-eq16.false in (
      omega (arith, g.N.fits),
      (
        narrow_cells g.row.N c.args.rows.now c.args.t c.args.width c.places_of.result c.requires.lanes c.requires.width c.if-width-eq16.false c.requires.some (c.requires.wide narrow_width)
            c.requires.whole c.requires.room c.places_of.ensures,
        omega (arith, eight c.args.width c.requires.width c.if-width-eq2.false c.if-width-eq4.false c.if-width-eq16.false),
      ),
    )

pub places_of-requires-clause-few : goal.places_of-requires-clause-few
places_of-requires-clause-few g c = c.requires.wide (narrow c.args.width c.requires.width c.if-width-eq16.false)
