-- Between a scheme and its number.
use Rattle.std.proofs.Common.{◌≡◌, ◌≢◌, ℕ, Bool, true, false, cond, nat_eq, refl, sym, ap, ◌∙◌, arith, eqb-true, ne_eqb}
use Rattle.std.specs.Prelude.{if◌then◌else◌}
use Rattle.std.proofs.lemmas.Bool.{eq-eqb, false≢true}
use Rattle.wire_frames.specs.declared.scheme.TheConstants.{SHAMIR, XOR}
use Rattle.wire_frames.specs.declared.scheme.Scheme.{Scheme}
use Rattle.wire_frames.specs.declared.scheme.Scheme.TheVariants.{Shamir, Xor}
use Rattle.wire_frames.specs.Scheme.{scheme_of}

-- the number of the XOR scheme stands for it
pub xor_is : (number : ℕ) → number ≡ XOR → scheme_of number ≡ Xor
unfolding scheme_of
xor_is number two = ap (λ (b : Bool). if b then Xor else Shamir) (eq-eqb number XOR two)

-- and that of Shamir's
pub shamir_is : (number : ℕ) → number ≡ SHAMIR → scheme_of number ≡ Shamir
unfolding scheme_of
shamir_is number one = ap (λ (b : Bool). if b then Xor else Shamir) (ne_eqb number XOR (λ two. omega (arith, one, two)))

-- a choice between the two schemes that gave the XOR scheme was taken
told_xor : (b : Bool) → ◌≡◌ {A = Scheme} (cond b Xor Shamir) Xor → b ≡ true
told_xor true e = refl
told_xor false e = absurd (cc)

-- and one that gave Shamir's was not
told_shamir : (b : Bool) → ◌≡◌ {A = Scheme} (cond b Xor Shamir) Shamir → b ≡ false
told_shamir true e = absurd (cc)
told_shamir false e = refl

-- only its number stands for the XOR scheme
pub number_of_xor : (number : ℕ) → scheme_of number ≡ Xor → number ≡ XOR
unfolding scheme_of
number_of_xor number is = eqb-true number XOR (told_xor (nat_eq number XOR) is)

-- and that number doesn't stand for Shamir's
pub number_of_shamir : (number : ℕ) → scheme_of number ≡ Shamir → number ≢ XOR
unfolding scheme_of
number_of_shamir number is same = false≢true (sym (told_shamir (nat_eq number XOR) is) ∙ eq-eqb number XOR same)
