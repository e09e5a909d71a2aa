-- The last fields of a header: the session, the rows and the width, and the value that they make.
use Rattle.std.proofs.Common.{◌≡◌, ℕ, ◌+◌, ◌*◌, ◌/◌, ◌^◌, ◌<◌, ◌≤◌, List, [], ◌++◌, take, drop, min, refl, arith, lit≤, lit<, div-le_self}
use Rattle.std.specs.Int.{bytes_high_first}
use Rattle.std.proofs.Math.Nat.{div-mul-le_self, mul-le-mul_right}
use Rattle.std.proofs.lemmas.Nat.{le-div}
use Rattle.quantity_limits.specs.declared.TheConstants.{MOST_BLOCKS, MOST_ROWS, MOST_WIDTH, MOST_CELLS}
use Rattle.wire_frames.specs.declared.field.Number.{Number}
use Rattle.wire_frames.specs.Field.{IsNumber, session_field, width_field}
use Rattle.wire_frames.specs.Form.{Starts}
use Rattle.quantity_limits.specs.Shape.{IsShape}
use Rattle.wire_frames.proofs.Chains.{Then, IsDone, Leads, field_then, leads-on, some_spelling, no_more}
use Rattle.wire_frames.proofs.Spellings.{number_is, joined, is_field}

-- rows
abbrev pub rows_field : Number
rows_field = record { width = 4; least = 1; most = MOST_ROWS }

-- the bytes of a session, of rows and of their width
abbrev pub shape_bytes : ℕ → ℕ → ℕ → List ℕ
shape_bytes session r s = bytes_high_first 8 session ++ (bytes_high_first 4 r ++ bytes_high_first 4 s)

-- what is left of a header where the fields before are known
abbrev pub at_s : {A : Type 0} → (ℕ → A) → ℕ → ℕ → List ℕ → A → Type 0
at_s make count r = Then (width_field count r) (λ s. IsDone (make s))

abbrev pub at_r : {A : Type 0} → (ℕ → ℕ → A) → ℕ → List ℕ → A → Type 0
at_r make count = Then rows_field (λ r. at_s (make r) count r)

abbrev pub at_session : {A : Type 0} → (ℕ → ℕ → ℕ → A) → ℕ → List ℕ → A → Type 0
at_session make count = Then session_field (λ session. at_r (make session) count)

-- so many rows of so many bytes, of which so many are asked for, are in range where the width is
widths : (count r s : ℕ) → 1 ≤ count → count * s ≤ MOST_WIDTH → IsShape r s → s ≤ min (MOST_WIDTH / count) (MOST_CELLS / r)
widths count r s asked blocks shape =
    let cells : s * r ≤ MOST_CELLS = grind (arith, shape.few_cells) in
    let bytes : s * count ≤ MOST_WIDTH = grind (arith, blocks) in
    let h = le-div s MOST_CELLS r shape.some_rows cells in
    let h' = le-div s MOST_WIDTH count asked bytes in
    omega (arith, h, h')

-- the rows that are asked for have few bytes where the width is in its range
blocks_are : (count r s : ℕ) → s ≤ min (MOST_WIDTH / count) (MOST_CELLS / r) → count * s ≤ MOST_WIDTH
blocks_are count r s most =
    let bytes : s * count ≤ MOST_WIDTH / count * count = mul-le-mul_right count (omega (arith, most)) in
    let all = div-mul-le_self MOST_WIDTH count in
    let turned : count * s ≡ s * count = grind arith in
    omega (arith, bytes, all, turned)

-- what width and rows there are where the width is in its range
shape_is : (count r s : ℕ) → 1 ≤ count → 1 ≤ r → r ≤ MOST_ROWS → 1 ≤ s → s ≤ min (MOST_WIDTH / count) (MOST_CELLS / r) → IsShape r s
shape_is count r s asked some few some_bytes most =
    let blocks = blocks_are count r s most in
    let one : 1 * s ≤ count * s = mul-le-mul_right s asked in
    let cells : s * r ≤ MOST_CELLS / r * r = mul-le-mul_right r (omega (arith, most)) in
    let all = div-mul-le_self MOST_CELLS r in
    let turned : r * s ≡ s * r = grind arith in
    record {
      some_rows = some;
      few_rows = few;
      some_bytes = some_bytes;
      few_bytes = omega (arith, blocks, one);
      few_cells = omega (arith, cells, all, turned);
    }

-- the bytes are a chain of fields
pub shape_into : {A : Type 0} (make : ℕ → ℕ → ℕ → A) (count session r s : ℕ) → session < 2 ^ 64 → IsShape r s → 1 ≤ count → count * s ≤ MOST_WIDTH
    → at_session make count (shape_bytes session r s) (make session r s)
shape_into make count session r s below shape asked blocks =
    let value = make session r s in
    let s_end = field_then {f = width_field count r} {next = λ s. IsDone (make session r s)} [] value (number_is 4 1 s (min (MOST_WIDTH / count) (MOST_CELLS / r)) shape.some_bytes (widths count r s asked blocks shape)) (record { none = refl; same = refl }) in
    let r_on = field_then {next = λ r. at_s (make session r) count r} _ value (number_is 4 1 r MOST_ROWS shape.some_rows shape.few_rows) s_end in
    field_then {next = λ session. at_r (make session) count} _ value (number_is 8 0 session 18446744073709551615 (omega arith) (omega arith)) r_on

-- a value that bytes make
pub record IsShaped {A : Type 0} (make : ℕ → ℕ → ℕ → A) (count : ℕ) (bytes : List ℕ) (value : A) : Type 0 where
  pub session : ℕ
  pub r : ℕ
  pub s : ℕ
  pub below : session < 2 ^ 64
  pub shape : IsShape r s
  pub blocks : count * s ≤ MOST_WIDTH
  pub spelled : bytes ≡ shape_bytes session r s
  pub same : make session r s ≡ value

-- a chain of fields has these bytes
pub shape_back : {A : Type 0} (make : ℕ → ℕ → ℕ → A) (count : ℕ) (bytes : List ℕ) (value : A) → 1 ≤ count → at_session make count bytes value → IsShaped make count bytes value
shape_back make count bytes value asked session =
    let r = session.goes_on in
    let s = r.goes_on in
    let s_is = joined r.rest s.prefix s.rest (bytes_high_first 4 s.number) [] s.split s.field.spelled s.goes_on.none in
    let r_is = joined session.rest r.prefix r.rest (bytes_high_first 4 r.number) _ r.split r.field.spelled s_is in
    record {
      session = session.number;
      r = r.number;
      s = s.number;
      below = omega (arith, session.field.most);
      shape = shape_is count r.number s.number asked r.field.least r.field.most s.field.least s.field.most;
      blocks = blocks_are count r.number s.number s.field.most;
      spelled = joined bytes session.prefix session.rest (bytes_high_first 8 session.number) _ session.split session.field.spelled r_is;
      same = s.goes_on.same;
    }

-- whatever came before, a header can be completed
pub some_s : {A : Type 0} (make : ℕ → A) (count r : ℕ) → 1 ≤ count → count ≤ MOST_BLOCKS → 1 ≤ r → r ≤ MOST_ROWS → Starts (at_s make count r) []
some_s make count r asked blocks some few =
    let room : 1 ≤ MOST_CELLS / r = le-div 1 MOST_CELLS r some (omega (arith, few)) in
    let row : 1 ≤ MOST_WIDTH / count = le-div 1 MOST_WIDTH count asked (omega (arith, blocks)) in
    some_spelling (width_field count r) _ 1 (omega arith) (omega (arith, room, row)) (no_more _)

-- behind a session some number of rows can stand, and a width
pub some_r : {A : Type 0} (make : ℕ → ℕ → A) (count : ℕ) → 1 ≤ count → count ≤ MOST_BLOCKS → Starts (at_r make count) []
some_r make count asked blocks = some_spelling _ _ 1 (omega arith) (lit≤ tt) (some_s (make 1) count 1 asked blocks (omega arith) (lit≤ tt))

-- behind the byte of blocks some session can stand, and a shape
pub some_session : {A : Type 0} (make : ℕ → ℕ → ℕ → A) (count : ℕ) → 1 ≤ count → count ≤ MOST_BLOCKS → Starts (at_session make count) []
some_session make count asked blocks = some_spelling _ _ 0 (omega arith) (omega arith) (some_r (make 0) count asked blocks)

-- THE STEPS of a reading: each field that is read leads on to the next
pub to_r : {A : Type 0} {F : List ℕ → A → Type 0} {at : ℕ} {bytes : List ℕ} {v : ℕ} (make : ℕ → ℕ → ℕ → A) (count : ℕ) → Leads F (at_session make count) at bytes
    → IsNumber session_field (take 8 (drop at bytes)) v → Leads F (at_r (make v) count) (at + 8) bytes
to_r make count leads h = leads-on (is_field 8 0 18446744073709551615 (lit≤ tt) (lit≤ tt) (lit< tt)) leads h

-- the rows were read, so the width comes next
pub to_s : {A : Type 0} {F : List ℕ → A → Type 0} {at : ℕ} {bytes : List ℕ} {v : ℕ} (make : ℕ → ℕ → A) (count : ℕ) → Leads F (at_r make count) at bytes
    → IsNumber rows_field (take 4 (drop at bytes)) v → Leads F (at_s (make v) count v) (at + 4) bytes
to_s make count leads h = leads-on (is_field 4 1 MOST_ROWS (lit≤ tt) (lit≤ tt) (lit< tt)) leads h

-- a width is a field where there is a number of it
pub to_end : {A : Type 0} {F : List ℕ → A → Type 0} {at : ℕ} {bytes : List ℕ} {v : ℕ} (make : ℕ → A) (count r : ℕ) → Leads F (at_s make count r) at bytes
    → IsNumber (width_field count r) (take 4 (drop at bytes)) v → Leads F (IsDone (make v)) (at + 4) bytes
to_end {A} {F} {at} {bytes} {v} make count r leads is =
    let blocks : min (MOST_WIDTH / count) (MOST_CELLS / r) ≤ MOST_CELLS = omega (arith, div-le_self MOST_CELLS r) in
    leads-on (is_field 4 1 (min (MOST_WIDTH / count) (MOST_CELLS / r)) (lit≤ tt) (omega (arith, is.least, is.most)) (omega (arith, blocks))) leads is
