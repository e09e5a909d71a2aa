-- A number of servers, from the least on: of which the XOR scheme allows no more.
use Rattle.std.proofs.Common.{◌≡◌, ℕ, ◌+◌, ◌≤◌, ◌==◌, inl, inr, ap, arith}
use Rattle.std.specs.Prelude.{◌⊎◌}
use Rattle.std.proofs.lemmas.Bool.{cases_eq, cond_both, cond-true, eq-eqb, eqb-true}
use Rattle.quantity_limits.specs.declared.TheConstants.{MOST_DEGREE, MOST_SERVERS}
use Rattle.wire_frames.specs.declared.scheme.Scheme.{Scheme}
use Rattle.wire_frames.specs.declared.scheme.Scheme.TheVariants.{Shamir, Xor}
use Rattle.wire_frames.specs.declared.scheme.TheConstants.{SHAMIR, XOR}
use Rattle.wire_frames.specs.Field.{IsField, most_servers, servers_field}
use Rattle.wire_frames.specs.Scheme.{scheme_of}

-- the most is in range where the least is
pub few_servers : (scheme : Scheme) (least : ℕ) → least ≤ MOST_SERVERS → most_servers scheme least ≤ MOST_SERVERS
few_servers Shamir least few = omega arith
few_servers Xor least few = few

-- and then the least is one of the numbers
pub some_servers : (scheme : Scheme) (least : ℕ) → least ≤ MOST_SERVERS → least ≤ most_servers scheme least
some_servers Shamir least few = few
some_servers Xor least few = omega arith

-- a number that is in range, and in the XOR scheme the least
pub at_most_servers : (scheme least v : ℕ) → (scheme ≡ XOR → v ≡ least) → v ≤ MOST_SERVERS → v ≤ most_servers (scheme_of scheme) least
unfolding scheme_of
at_most_servers scheme least v one few =
    cond_both (scheme == XOR) Xor Shamir (λ z. v ≤ most_servers z least) (λ e. omega (arith, one (eqb-true scheme XOR e))) (λ _. few)

-- where few may learn nothing together, there are so many that have to agree
pub few_agree : (scheme : Scheme) (t h : ℕ) → t ≤ MOST_DEGREE → h ≤ most_servers scheme (t + 1) → h ≤ MOST_SERVERS
few_agree scheme t h few most = omega (arith, few_servers scheme (t + 1) (omega (arith, few)), most)

-- in the XOR scheme it is the least
pub one_number : (scheme least v : ℕ) → least ≤ v → v ≤ most_servers (scheme_of scheme) least → scheme ≡ XOR → v ≡ least
unfolding scheme_of
one_number scheme least v low high xor =
    let is : scheme_of scheme ≡ Xor = cond-true (scheme == XOR) Xor Shamir (eq-eqb scheme XOR xor) in
    omega (arith, low, high, ap (λ (z : Scheme). most_servers z least) is)

-- there is a field of such numbers where the least is in range
pub servers_are : (scheme : Scheme) (least : ℕ) → least ≤ MOST_SERVERS → IsField (servers_field scheme least)
servers_are scheme least few = record {
  narrow = omega arith;
  some = some_servers scheme least few;
  fits = omega (arith, few_servers scheme least few);
}

-- a number from the least to the most is that of a scheme
pub a_scheme : (scheme : ℕ) → SHAMIR ≤ scheme → scheme ≤ XOR → (scheme ≡ SHAMIR) ⊎ (scheme ≡ XOR)
a_scheme scheme some two = elim (cases_eq scheme SHAMIR) [
  | inl one ↦ inl one
  | inr other ↦ inr (omega (arith, some, two, other))
]

-- and the other way round
pub scheme_in : (scheme : ℕ) → (scheme ≡ SHAMIR) ⊎ (scheme ≡ XOR) → (SHAMIR ≤ scheme) × (scheme ≤ XOR)
scheme_in scheme (inl one) = (omega (arith, one), omega (arith, one))
scheme_in scheme (inr two) = (omega (arith, two), omega (arith, two))
