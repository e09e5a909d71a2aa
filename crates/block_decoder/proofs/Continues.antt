-- The continuations of a vector of polynomials, one more polynomial at a time.
use Rattle.std.proofs.Common.{◌≡◌, ◌⊎◌, ◌↔◌, ℕ, ◌+◌, ◌%◌, ◌^◌, ◌<◌, ◌≤◌, List, [], ◌∷◌, ◌++◌, length, get_or, map, Contains, sym, ap, subst, ◌∙◌, inl, inr, arith}
use Rattle.std.specs.Cmp.Lexicographic.{slice_cmp}
use Rattle.std.specs.List.Sorted.{IsStrictlySortedBy}
use Rattle.std.specs.Ordering.{nat_cmp}
use Rattle.std.proofs.lemmas.Bool.{cases_lt}
use Rattle.std.proofs.lemmas.List.{map-append, length-map}
use Rattle.std.proofs.lemmas.List.Elements.{Contains-get_or}
use Rattle.gf256.specs.Polynomial.{coef}
use Rattle.wire_frames.specs.Answer.{Answer}
use Rattle.block_decoder.specs.Agreed.{constants_of, weight, Agreed, Filled, Heavy, Lists}
use Rattle.block_decoder.specs.Gains.{Gains}
use Rattle.block_decoder.specs.Narrowing.{ContinuesFrom}
use Rattle.block_decoder.specs.declared.decoding.Decoding.{Decoding}
use Rattle.block_decoder.specs.Numbered.{numbered, all_numbered, Continues, ContinuesBelow}
use Rattle.block_decoder.proofs.Agreed.{agreed_is_heavy}
use Rattle.block_decoder.proofs.Numbered.{IsPolynomial-numbered, number-IsPolynomial, constants-all_numbered}
use Rattle.block_decoder.proofs.Continued.{continues-whole, continues-before, continues-next}

-- ---- gains

-- nothing has come where P holds of nothing
pub Gains-none : {X : Type 0} (P : X → Type 0) (xs : List X) → ((b : X) → P b → ⊥) → Gains P xs xs
Gains-none P xs none b = (inl, λ either. elim either [ inl old ↦ old | inr new ↦ absurd (none b new) ])

-- what has come may be said in other words
pub Gains-same : {X : Type 0} (P Q : X → Type 0) (old new : List X) → ((b : X) → P b ↔ Q b) → Gains P old new
    → Gains Q old new
Gains-same P Q old new same gains b = (
  λ has. elim ((gains b).0 has) [ inl o ↦ inl o | inr p ↦ inr ((same b).0 p) ],
  λ either. (gains b).1 (elim either [ inl o ↦ inl o | inr q ↦ inr ((same b).1 q) ]),
)

-- what came first and what came then have come
pub Gains-both : {X : Type 0} (P Q R : X → Type 0) (first second third : List X) → Gains P first second
    → Gains Q second third → ((b : X) → R b ↔ (P b ⊎ Q b)) → Gains R first third
Gains-both P Q R first second third p q both b = (
  λ has. elim ((q b).0 has) [
    | inl in_second ↦ elim ((p b).0 in_second) [ inl old ↦ inl old | inr new ↦ inr ((both b).1 (inl new)) ]
    | inr new ↦ inr ((both b).1 (inr new))
  ],
  λ either. (q b).1 (elim either [
    | inl old ↦ inl ((p b).1 (inl old))
    | inr new ↦ elim ((both b).0 new) [ inl by_p ↦ inl ((p b).1 (inr by_p)) | inr by_q ↦ inr by_q ]
  ]),
)

-- ---- continuations

module _ (d : Decoding) (numbers : List ℕ) where
  -- a vector with a polynomial for each column has itself alone
  pub Continues-whole : length numbers ≡ d.width → d.agreement ≤ weight (all_numbered d.degree numbers) d.answers → (b : List ℕ)
      → (b ≡ map (λ n. n % 256) numbers) ↔ Continues d numbers b
  Continues-whole whole enough b =
      let is = continues-whole constants_of d (all_numbered d.degree numbers) (length-map numbers (numbered d.degree) ∙ whole) enough b in
      let constants = constants-all_numbered d.degree numbers in
      (λ e. is.0 (e ∙ sym constants), λ c. is.1 c ∙ constants)

  -- a shorter one has those of the vectors with one polynomial more
  pub Continues-next : length numbers < d.width → (b : List ℕ)
      → ContinuesBelow (256 ^ (d.degree + 1)) d numbers b ↔ Continues d numbers b
  Continues-next short b =
      let v = all_numbered d.degree numbers in
      let size = length-map numbers (numbered d.degree) in (
        λ c. continues-before constants_of d v (numbered d.degree c.next) b (IsPolynomial-numbered d.degree c.next)
            (subst (λ w. ContinuesFrom constants_of d w b) (map-append (numbered d.degree) numbers (c.next ∷ [])) c.continues),
        λ c.
            let (p, is, further) = continues-next constants_of d v (omega (arith, size, short)) b c in
            let has = number-IsPolynomial d.degree p is in
            record {
              next = has.number;
              below = has.below;
              continues = subst (λ w. ContinuesFrom constants_of d w b) (ap (λ q. v ++ q ∷ []) (sym has.is) ∙ sym (map-append (numbered d.degree) numbers (has.number ∷ []))) further;
            },
      )

  -- below one more it is by that number or one below it
  pub ContinuesBelow-more : (bound : ℕ) (b : List ℕ)
      → ContinuesBelow (bound + 1) d numbers b ↔ (ContinuesBelow bound d numbers b ⊎ Continues d (numbers ++ bound ∷ []) b)
  ContinuesBelow-more bound b = (
    λ c. let l = c.below in
        elim (cases_lt c.next bound) [
          | inl below ↦ inl (record { next = c.next; below = below; continues = c.continues })
          | inr last ↦ let e : c.next ≡ bound = omega (arith, l, last) in inr (subst (λ n. Continues d (numbers ++ n ∷ []) b) e c.continues)
        ],
    λ either. elim either [
      | inl c ↦ let l = c.below in record { next = c.next; below = omega (arith, l); continues = c.continues }
      | inr c ↦ record { next = bound; below = omega arith; continues = c }
    ],
  )

-- where the blocks of heavy polynomials have come to the empty listing, it has the agreed blocks
pub Lists-Gains : (answers : List Answer) (width t h : ℕ) (blocks : List (List ℕ)) → Filled width answers
    → IsStrictlySortedBy (slice_cmp nat_cmp) blocks → Gains (Heavy answers width t h) [] blocks
    → Lists blocks answers width t h
Lists-Gains answers width t h blocks filled ascending gains =
    record { ascending = ascending; sizes = λ k d l. size (get_or blocks k d) ((exact (get_or blocks k d)).0 (Contains-get_or blocks k d l)); exact = exact }
  where
    size : (b : List ℕ) → Agreed answers width t h b → length b ≡ width
    size b a = ap length a.constants ∙ length-map a.polynomials (λ p. coef p 0) ∙ a.one_a_column

    exact : (b : List ℕ) → Contains blocks b ↔ Agreed answers width t h b
    exact b =
        let heavy = agreed_is_heavy answers width t h b filled in (
          λ has. elim ((gains b).0 has) [
            | inl none ↦ let l = none.1 in absurd (omega (arith, l))
            | inr new ↦ heavy.1 new
          ],
          λ a. (gains b).1 (inr (heavy.0 a)),
        )
