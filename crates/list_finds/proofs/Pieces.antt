-- How many keys are asked for in so many queries.
use Rattle.std.proofs.Common.{◌≡◌, ◌∙◌, ℕ, ◌+◌, ◌-◌, ◌*◌, ◌/◌, ◌<◌, ◌≤◌, min, List, length, take, drop, ap, length-drop, length-take, mul_comm, mul-le-mul_right, arith}
use Rattle.std.proofs.Math.Nat.{div-mul-le_self, suc-mul}

-- a query begins before the end of the keys
pub begins_within : (keys each count : ℕ) → 1 ≤ each → count < (keys + (each - 1)) / each → count * each < keys
begins_within keys each count some few =
    let all = (keys + (each - 1)) / each in
    let before : (count + 1) * each ≤ all * each = mul-le-mul_right each (omega (arith, few)) in
    let within : all * each ≤ keys + (each - 1) = div-mul-le_self (keys + (each - 1)) each in
    let step : (count + 1) * each ≡ count * each + each = ap (λ (n : ℕ). n * each) (omega arith) ∙ suc-mul count each in
    omega (arith, before, within, step, some)

-- all keys are asked for in all queries
pub ends_behind : (keys each : ℕ) → 1 ≤ each → keys ≤ (keys + (each - 1)) / each * each
ends_behind keys each some =
    let swap = mul_comm each ((keys + (each - 1)) / each) in
    omega (arith, swap, some)

-- one more query asks for the keys behind those so far
pub asked-more : (keys each count : ℕ) → count * each < keys
    → min ((count + 1) * each) keys ≡ min (count * each) keys + min each (keys - count * each)
asked-more keys each count within =
    let step : (count + 1) * each ≡ count * each + each = ap (λ (n : ℕ). n * each) (omega arith) ∙ suc-mul count each in
    omega (arith, step, within)

-- the keys of a query: those that are left, and no more than one has
pub length-piece : {A : Type 0} (keys : List A) (each count : ℕ)
    → length (take each (drop (count * each) keys)) ≡ min each (length keys - count * each)
length-piece keys each count =
    length-take each (drop (count * each) keys) ∙ ap (min each) (length-drop (count * each) keys)
