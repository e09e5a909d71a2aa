-- The byte that says for how many blocks a query asks, in either version.
use Rattle.std.proofs.Common.{◌≡◌, ℕ, ◌*◌, ◌/◌, ◌≤◌, inl, inr, refl, sym, ap, ◌∙◌, arith, div-le_self}
use Rattle.std.specs.Prelude.{◌⊎◌, ◌==◌}
use Rattle.std.proofs.lemmas.Bool.{cases_eq, cond-true, cond-false, eq-eqb, ne_eqb}
use Rattle.quantity_limits.specs.declared.TheConstants.{MOST_BLOCKS, MOST_ROWS, MOST_WIDTH, MOST_CELLS}
use Rattle.wire_frames.specs.declared.version.Version.{Version}
use Rattle.wire_frames.specs.declared.version.Version.TheVariants.{Single, Several}
use Rattle.wire_frames.specs.declared.places.TheConstants.{FRAME_STATUS_PLACE, FRAME_SESSION_PLACE}
use Rattle.std.proofs.lemmas.Nat.{le-div}
use Rattle.wire_frames.specs.Field.{IsField, count_field, width_field}
use Rattle.wire_frames.specs.Limits.{IsCount}
use Rattle.quantity_limits.specs.Shape.{IsShape}
use Rattle.wire_frames.specs.Query.{first_place, end_place}
use Rattle.wire_frames.specs.Version.{answer_version, count_byte, count_name, count_of, number_of, version_of}

-- a number from the least to the most is that of a version
versions : (number : ℕ) → number_of Single ≤ number → number ≤ number_of Several → (number ≡ number_of Single) ⊎ (number ≡ number_of Several)
versions number some two = elim (cases_eq number 1) [
  | inl one ↦ inl one
  | inr other ↦ inr (omega (arith, some, two, other))
]

-- the number of version 1 stands for it
pub single_is : (number : ℕ) → number ≡ number_of Single → version_of number ≡ Single
unfolding version_of
single_is number one = cond-false (number == 2) Several Single (ne_eqb number 2 (λ two. omega (arith, one, two)))

-- and that of version 2 for that
pub several_is : (number : ℕ) → number ≡ number_of Several → version_of number ≡ Several
unfolding version_of
several_is number two = cond-true (number == 2) Several Single (eq-eqb number 2 two)

-- more blocks have no smaller byte
pub byte-mono : (version : Version) (m n : ℕ) → m ≤ n → count_byte version m ≤ count_byte version n
byte-mono Single m n h = omega arith
byte-mono Several m n h = h

-- a byte is at most the number
pub byte_most : (version : Version) (n : ℕ) → count_byte version n ≤ n
byte_most Single n = omega arith
byte_most Several n = omega arith

-- the field has some byte
pub count_is_field : (version : Version) → IsField (count_field version)
count_is_field version = record {
  narrow = omega arith;
  some = byte-mono version 1 MOST_BLOCKS (omega arith);
  fits = omega (arith, byte_most version MOST_BLOCKS);
}

-- a width in range has a number
pub width_is_field : (count rows : ℕ) → 1 ≤ count → count ≤ MOST_BLOCKS → 1 ≤ rows → rows ≤ MOST_ROWS → IsField (width_field count rows)
width_is_field count rows asked blocks some few =
    let room : 1 ≤ MOST_CELLS / rows = le-div 1 MOST_CELLS rows some (omega (arith, few)) in
    let row : 1 ≤ MOST_WIDTH / count = le-div 1 MOST_WIDTH count asked (omega (arith, blocks)) in
    record {
      narrow = omega arith;
      some = omega (arith, room, row);
      fits = omega (arith, div-le_self MOST_WIDTH count);
    }

-- in version 1 a row is asked for
pub single_count : (r s : ℕ) → IsShape r s → IsCount (number_of Single) 1 s
single_count r s shape = record {
  some_version = omega arith;
  two_versions = omega arith;
  some_blocks = omega arith;
  few_blocks = omega arith;
  one_block = λ _. refl;
  few_bytes = omega (arith, shape.few_bytes);
}

-- the byte of a number in range is in the field, and tells the number
pub count_told : (version count s : ℕ) → IsCount version count s → count_of (count_byte (version_of version) count) ≡ count
count_told version count s is = elim (versions version is.some_version is.two_versions) [
  | inl one ↦ ap (λ (v : Version). count_of (count_byte v count)) (single_is version one) ∙ sym (is.one_block one)
  | inr two ↦ ap (λ (v : Version). count_of (count_byte v count)) (several_is version two) ∙ omega (arith, is.some_blocks)
]

-- a byte of the field is that of the number which it tells
pub byte_told : (version : Version) (byte : ℕ) → count_byte version 1 ≤ byte → byte ≤ count_byte version MOST_BLOCKS
    → byte ≡ count_byte version (count_of byte)
byte_told Single byte least most = omega (arith, most)
byte_told Several byte least most = omega (arith, least)

-- in version 1 it tells one
one_told : (version : Version) (byte : ℕ) → version ≡ Single → byte ≤ count_byte version MOST_BLOCKS → count_of byte ≡ 1
one_told Single byte is most = omega (arith, most)
one_told Several byte is most = absurd (cc)

-- and that number is in range
pub count_in : (version byte s : ℕ) → number_of Single ≤ version → version ≤ number_of Several
    → byte ≤ count_byte (version_of version) MOST_BLOCKS → count_of byte * s ≤ MOST_WIDTH → IsCount version (count_of byte) s
count_in version byte s some two most few = record {
  some_version = some;
  two_versions = two;
  some_blocks = omega arith;
  few_blocks = omega (arith, most, byte_most (version_of version) MOST_BLOCKS);
  one_block = λ one. one_told (version_of version) byte (single_is version one) most;
  few_bytes = few;
}

-- numbers with one byte are one
pub same_count : (version m n s s' : ℕ) → IsCount version m s → IsCount version n s' → count_byte (version_of version) m ≡ count_byte (version_of version) n → m ≡ n
same_count version m n s s' hm hn e = sym (count_told version m s hm) ∙ ap count_of e ∙ count_told version n s' hn

-- the answer to a query is of its version
pub answer_version_is : (version : ℕ) → number_of Single ≤ version → version ≤ number_of Several → number_of (answer_version version) ≡ version
unfolding answer_version
answer_version_is version some two = elim (versions version some two) [
  | inl one ↦ ap number_of (cond-false (version == 2) Several Single (ne_eqb version 2 (λ two. omega (arith, one, two)))) ∙ sym one
  | inr several ↦ ap number_of (cond-true (version == 2) Several Single (eq-eqb version 2 several)) ∙ sym several
]

-- whatever its name, the field begins at the place of a status
pub name_place : (version : Version) → first_place (count_name version) ≡ FRAME_STATUS_PLACE
name_place Single = refl
name_place Several = refl

-- and ends where the session begins
pub name_end : (version : Version) → end_place (count_name version) ≡ FRAME_SESSION_PLACE
name_end Single = refl
name_end Several = refl
