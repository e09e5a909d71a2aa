-- Fields by their bytes.
use Rattle.std.proofs.Common.{◌≡◌, ℕ, ◌^◌, ◌<◌, ◌≤◌, Fits, w8, w32, max, List, [], ◌∷◌, ◌++◌, take, drop, refl, sym, subst, ap, ap₂, ◌∙◌, arith}
use Rattle.std.specs.Int.{bytes_high_first}
use Rattle.std.proofs.Math.Nat.{mod-eq_of_lt}
use Rattle.wire_frames.specs.declared.field.Number.{Number}
use Rattle.wire_frames.specs.Field.{IsField, IsNumber}
use Rattle.wire_frames.specs.Form.{StopsWithin}

-- a field of one value
abbrev pub only : ℕ → ℕ → Number
only width value = record { width = width; least = value; most = value }

-- a field of at most 8 bytes that has some number, and none that is longer
pub is_field : (width least most : ℕ) → width ≤ 8 → least ≤ most → most < 256 ^ width → IsField (record { width = width; least = least; most = most })
is_field width least most narrow some fits = record { narrow = narrow; some = some; fits = fits }

-- a field that is another, and a number of it, or how far it is right
pub number_as : {f g : Number} {v : ℕ} (at : ℕ) (bytes : List ℕ) → f ≡ g → IsNumber f (take f.width (drop at bytes)) v → IsNumber g (take g.width (drop at bytes)) v
number_as {f} {g} {v} at bytes same h = subst (λ (m : Number). IsNumber m (take m.width (drop at bytes)) v) same h

-- bytes stop being a number of a field where they stop being one of the same field
pub stop_as : {f g : Number} {at place : ℕ} {bytes : List ℕ} → f ≡ g → StopsWithin (IsNumber f) at f.width bytes place → StopsWithin (IsNumber g) at g.width bytes place
stop_as {f} {g} {at} {place} {bytes} same h = subst (λ (m : Number). StopsWithin (IsNumber m) at m.width bytes place) same h

-- one byte spells itself
one_byte : (v : ℕ) → v < 256 → v ∷ [] ≡ bytes_high_first 1 v
one_byte v h = ap (λ (x : ℕ). x ∷ []) (sym (mod-eq_of_lt h))

-- a field of one byte
pub byte_is : (least v most : ℕ) → least ≤ v → v ≤ most → most < 256 → IsNumber (record { width = 1; least = least; most = most }) (v ∷ []) v
byte_is least v most low high fits = record { least = low; most = high; spelled = one_byte v (omega arith) }

-- a number of more bytes
pub number_is : (width least v most : ℕ) → least ≤ v → v ≤ most → IsNumber (record { width = width; least = least; most = most }) (bytes_high_first width v) v
number_is width least v most low high = record { least = low; most = high; spelled = refl }

-- a field of one byte is its number
pub byte_prefix : (least most v : ℕ) (prefix : List ℕ) → most < 256 → IsNumber (record { width = 1; least = least; most = most }) prefix v → prefix ≡ v ∷ []
byte_prefix least most v prefix fits h = h.spelled ∙ sym (one_byte v (omega (arith, h.most)))

-- a field of one value is that value's bytes
pub only_prefix : (width value v : ℕ) (prefix : List ℕ) → IsNumber (only width value) prefix v → prefix ≡ bytes_high_first width value
only_prefix width value v prefix h =
    let same : v ≡ value = omega (arith, h.least, h.most) in
    h.spelled ∙ ap (bytes_high_first width) same

-- a split, where both parts are known
pub joined : (bytes prefix rest prefix' rest' : List ℕ) → bytes ≡ prefix ++ rest → prefix ≡ prefix' → rest ≡ rest' → bytes ≡ prefix' ++ rest'
joined bytes prefix rest prefix' rest' split e e' = split ∙ ap₂ (λ (x y : List ℕ). x ++ y) e e'

-- no number is below zero
pub from_zero : (n : ℕ) → 0 ≤ n
from_zero n = omega arith

-- a number that is at most a byte's, or at most a word's
pub fits_byte : {n m : ℕ} → n ≤ m → m < 2 ^ 8 → Fits w8 n
fits_byte few small = omega (arith, few, small)

-- a number that is at most one of 32 bits has 32 bits
pub fits_word : {n m : ℕ} → n ≤ m → m < 2 ^ 32 → Fits w32 n
fits_word few small = omega (arith, few, small)

-- a query asks for a block or more
pub some_blocks : (count byte : ℕ) → count ≡ max byte 1 → 0 < count
some_blocks count byte is = omega (arith, is)
