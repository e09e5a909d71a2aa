use Rattle.std.proofs.Common.{◌≡◌, ◌*◌, ◌/◌, ◌^◌, ◌<◌, length, map, get_or, ap, ◌∙◌, arith}
use Rattle.std.proofs.lemmas.List.{length-map}
use Rattle.key_table.specs.Digest.{number_of}
use Rattle.key_table.specs.Numbered.{bare, numbers}
use Rattle.key_table.specs.Places.{digest_at, pair_at}
use Rattle.key_table.specs.Sorting.{Sorted}
use Rattle.key_table.specs.declared.place.Place.{Place}
use Rattle.key_table.proofs.Numbered.{number_there}
use Rattle.key_table.proofs.entries.SortedEntries.row.Goals as goal

pub number_at-requires : goal.number_at-requires
number_at-requires c =
    let places = c.self.inside.places.items in
    omega (
      arith,
      c.requires,
      ap (λ (s : Sorted). length s.pairs) c.self.view_is,
      ap length c.as_slice.ensures.value,
      length-map places (λ (p : Place). p.place),
      length-map (bare places) (pair_at c.self.inside.pairs.pairs),
    )

pub returns-clause-row : goal.returns-clause-row
returns-clause-row c =
    let list = c.self.inside.pairs.pairs in
    let places = c.self.inside.places.items in
    let k = c.args.entry in
    let many : length (map (pair_at list) (bare places)) ≡ length c.args.self.now.pairs = ap (λ (s : Sorted). length s.pairs) c.self.view_is in
    let within : k < length places =
    omega (arith, c.requires, many, length-map places (λ (p : Place). p.place), length-map (bare places) (pair_at list)) in
    let number : c.number_at.result ≡ number_of (digest_at c.args.self.now.pairs k) =
    c.number_at.ensures ∙ ap (λ ps. get_or (numbers ps) k 0) c.as_slice.ensures.value
    ∙ number_there list places k within c.self.invariant.numbers
    ∙ ap (λ (s : Sorted). number_of (digest_at s.pairs k)) c.self.view_is in
    c.row_of_number.ensures.row ∙ ap (λ n. n * c.args.rows / 2 ^ 64) number
