-- Who agrees: the order of agreements, and what a report has.
use Rattle.std.proofs.Common.{◌≡◌, ◌↔◌, ℕ, ◌<◌, ◌≤◌, ◌∷◌, ◌++◌, List, [], length, map, get_or, filter, ◌⊎◌, Contains, Bool, bytes_eq, cond, refl, sym, ap, ap₂, subst, ◌∙◌, inl, inr, arith}
use Rattle.std.specs.Cmp.{IsTotalOrder}
use Rattle.std.specs.Cmp.Lexicographic.{slice_cmp}
use Rattle.std.specs.List.{AllWithin, HoldsAt, insert}
use Rattle.std.specs.List.Sorted.{IsStrictlySortedBy, IsNonDecreasingBy}
use Rattle.std.specs.Ordering.{nat_cmp, ordering_index, ordering_then}
use Rattle.std.specs.declared.cmp.Ordering.{Ordering}
use Rattle.std.specs.declared.cmp.Ordering.TheVariants.{Less, Equal, Greater}
use Rattle.std.proofs.lemmas.Cmp.{nat_list_cmp_total, on_total, then_total}
use Rattle.std.proofs.lemmas.List.{take_all, map-append, map-id, length-map, get_or-map, get_or_default}
use Rattle.std.proofs.lemmas.List.Elements.{All-head, All-tail, Contains-append_left, Contains-append_right, Contains-append_cases}
use Rattle.std.proofs.lemmas.List.Sums.{length-filter}
use Rattle.gf256.specs.Polynomial.{val}
use Rattle.wire_frames.specs.Answer.{Answer}
use Rattle.block_decoder.specs.Agreed.{weight, holds_first, Filled, Heavy, Lists}
use Rattle.block_decoder.specs.Decoding.{decoding}
use Rattle.block_decoder.specs.Gains.{Gains}
use Rattle.block_decoder.specs.Narrowing.{agreement_on, holding, ContinuesFrom}
use Rattle.block_decoder.specs.Report.{Agreement, agreement_cmp, holds, indices_of, HasBlocks, IsAgreement, IsReport}
use Rattle.block_decoder.proofs.Agreed.{agreed_is_heavy}
use Rattle.block_decoder.proofs.Continued.{Contains-one}
use Rattle.block_decoder.proofs.Continues.{Lists-Gains}
use Rattle.block_decoder.proofs.Ascending.{comparisons_rise, same_bytes, sorted_after}

-- ---- the order

-- it is a total order
pub agreement_cmp_total : IsTotalOrder agreement_cmp
agreement_cmp_total = then_total (on_total (λ (a : Agreement). a.block) nat_list_cmp_total) (on_total (λ (a : Agreement). a.indices) nat_list_cmp_total)

-- agreements that compare as equal are one
pub same_agreements : (a b : Agreement) → agreement_cmp a b ≡ Equal → a ≡ b
same_agreements a b e = by_block (slice_cmp nat_cmp a.block b.block) refl e
  where
    by_block : (o : Ordering) → slice_cmp nat_cmp a.block b.block ≡ o → ordering_then o (slice_cmp nat_cmp a.indices b.indices) ≡ Equal → a ≡ b
    by_block Less is e = absurd cc
    by_block Equal is e = ap₂ (λ (block indices : List ℕ). record { block = block; indices = indices }) (same_bytes a.block b.block is) (same_bytes a.indices b.indices e)
    by_block Greater is e = absurd cc

-- ---- elements

module _ {X : Type 0} where
  -- what stands at a place is among the elements
  pub Contains-at : (x : X) (xs : List X) (i : ℕ) → i < length xs → HoldsAt (λ y. y ≡ x) xs i → Contains xs x
  Contains-at x [] i l h = absurd (omega (arith, l))
  Contains-at x (y ∷ ys) i l h = (i, l, h x)

-- the comparisons with an agreement rise along agreements in order, all a binary search asks
pub rise : (all : List Agreement) (a : Agreement) → IsStrictlySortedBy agreement_cmp all
    → IsNonDecreasingBy (λ b. ordering_index (agreement_cmp b a)) all
rise all a ascending = comparisons_rise agreement_cmp_total (λ (b : Agreement). b) all a (subst (IsStrictlySortedBy agreement_cmp) (sym (map-id all)) ascending)

-- they stay in order where one is put in between what is less and what is greater, or none is
pub put_in : (all new : List Agreement) (a : Agreement) (i : ℕ) (done : Bool) → new ≡ cond done (insert all i a) all
    → IsStrictlySortedBy agreement_cmp all → i ≤ length all → AllWithin (λ b. agreement_cmp b a ≡ Less) all 0 i
    → AllWithin (λ b. agreement_cmp b a ≡ Greater) all i (length all) → IsStrictlySortedBy agreement_cmp new
put_in all new a i done is ascending within less greater =
    subst (IsStrictlySortedBy agreement_cmp) (map-id new)
    (sorted_after agreement_cmp_total (λ (b : Agreement). b) all new a i done is
    (subst (IsStrictlySortedBy agreement_cmp) (sym (map-id all)) ascending) within less greater)

-- ---- the blocks of agreements

module _ {X Y : Type 0} (f : X → Y) where
  -- the image of an element is among the images
  pub image-in : (xs : List X) (x : X) → Contains xs x → Contains (map f xs) (f x)
  image-in xs x (i, l, is) =
      let size = length-map xs f in
      (i, omega (arith, size, l), get_or-map f xs i x (f x) l ∙ ap f is)

  -- and each image is that of an element
  pub image-of : (xs : List X) (y : Y) → Contains (map f xs) y → (x : X) × Contains xs x × (f x ≡ y)
  image-of [] y (i, l, is) = absurd (omega (arith, l))
  image-of (x ∷ xs) y (i, l, is) =
      let size = length-map (x ∷ xs) f in
      let m : i < length (x ∷ xs) = omega (arith, size, l) in
      (get_or (x ∷ xs) i x, (i, m, get_or_default (x ∷ xs) i _ x m), sym (get_or-map f (x ∷ xs) i x y m) ∙ is)

  -- one more element has one more image
  pub images-more : (xs : List X) (x : X) (y : Y) → Contains (map f (xs ++ x ∷ [])) y ↔ (Contains (map f xs) y ⊎ (y ≡ f x))
  images-more xs x y =
      let whole = map-append f xs (x ∷ []) in (
        λ has. elim (Contains-append_cases (map f xs) (f x ∷ []) y (subst (λ l. Contains l y) whole has)) [
          | inl before ↦ inl before
          | inr last ↦ inr (Contains-one (f x) y last)
        ],
        λ either. subst (λ l. Contains l y) (sym whole) (elim either [
          | inl before ↦ Contains-append_left (map f xs) (f x ∷ []) y before
          | inr last ↦ Contains-append_right (map f xs) (f x ∷ []) y (0, omega arith, sym last)
        ]),
      )

-- one more agreement brings one more block
pub blocks-more : (old new : List (List ℕ)) (all : List Agreement) (a : Agreement) (block : List ℕ) → block ≡ a.block
    → HasBlocks old all → ((b : List ℕ) → Contains new b ↔ (Contains old b ⊎ (b ≡ block)))
    → HasBlocks new (all ++ a ∷ [])
blocks-more old new all a block is before more b =
    let images = images-more (λ (a : Agreement). a.block) all a b in (
      λ has. images.1 (elim ((more b).0 has) [ inl one ↦ inl ((before b).0 one) | inr last ↦ inr (last ∙ is) ]),
      λ has. (more b).1 (elim (images.0 has) [ inl one ↦ inl ((before b).1 one) | inr last ↦ inr (last ∙ sym is) ]),
    )

-- ---- what is narrowed and what is reported

-- where answers have a byte for each polynomial, a vector holds at the same ones in all columns as in its first
pub holding-whole : (answers : List Answer) (width : ℕ) (v : List (List ℕ)) → Filled width answers → length v ≡ width
    → holding v answers ≡ filter (holds v) answers
holding-whole [] width v filled e = refl
holding-whole (a ∷ answers) width v filled e =
    let same : holds_first v a ≡ holds v a = ap (λ bytes. bytes_eq bytes (map (λ p. val p a.index) v))
    (take_all (length v) a.payload (let f = All-head (λ a. length a.payload ≡ width) a answers filled in omega (arith, e, f))) in
    ap₂ (λ (b : Bool) (l : List Answer). cond b (a ∷ l) l) same
    (holding-whole answers width v (All-tail (λ a. length a.payload ≡ width) a answers filled) e)

-- as many indices as answers at which it holds
pub many-indices : (answers : List Answer) (v : List (List ℕ)) → length (agreement_on answers v).indices ≡ weight v answers
many-indices answers v = length-map (holding v answers) (λ (a : Answer). a.index) ∙ length-filter (holds_first v) answers

module _ (answers : List Answer) (width t h : ℕ) (filled : Filled width answers) where
  -- what the empty vector is continued to are the agreements
  pub continues-agreement : (a : Agreement)
      → ContinuesFrom (agreement_on answers) (decoding answers width t h) [] a ↔ IsAgreement answers width t h a
  continues-agreement a = (
    λ c.
        let e : length c.more ≡ width = let n = c.one_a_column in omega (arith, n) in
        let many = many-indices answers c.more in
        let enough = c.enough in
        let size = ap (λ (a : Agreement). length a.indices) c.is in
        record {
          polynomials = c.more;
          one_a_column = e;
          degree = c.degree;
          block = ap (λ (a : Agreement). a.block) c.is;
          indices = ap (λ (a : Agreement). a.indices) c.is ∙ ap indices_of (holding-whole answers width c.more filled e);
          enough = omega (arith, many, enough, size);
        },
    λ i.
        let same : a.indices ≡ indices_of (holding i.polynomials answers) =
        i.indices ∙ sym (ap indices_of (holding-whole answers width i.polynomials filled i.one_a_column)) in
        let many = many-indices answers i.polynomials in
        let size = ap length same in
        let enough = i.enough in
        record {
          more = i.polynomials;
          one_a_column = let n = i.one_a_column in omega (arith, n);
          degree = i.degree;
          enough = omega (arith, many, size, enough);
          is = ap₂ (λ (block indices : List ℕ). record { block = block; indices = indices }) i.block same;
        },
  )

  -- so where these have come to the empty report, it is whole
  pub report-gains : (agreements : List Agreement) → IsStrictlySortedBy agreement_cmp agreements
      → Gains (ContinuesFrom (agreement_on answers) (decoding answers width t h) []) [] agreements
      → IsReport answers width t h agreements
  report-gains agreements ascending gains = record {
    ascending = ascending;
    exact = λ a. (
      λ has. elim ((gains a).0 has) [
        | inl none ↦ let l = none.1 in absurd (omega (arith, l))
        | inr new ↦ (continues-agreement a).0 new
      ],
      λ is. (gains a).1 (inr ((continues-agreement a).1 is)),
    );
  }

  -- the blocks of a report are those of heavy vectors
  pub reported-heavy : (agreements : List Agreement) → IsReport answers width t h agreements → (b : List ℕ)
      → Contains (map (λ a. a.block) agreements) b ↔ Heavy answers width t h b
  reported-heavy agreements report b = (
    λ has.
        let (a, among, is) = image-of (λ (a : Agreement). a.block) agreements b has in
        let c = (continues-agreement a).1 ((report.exact a).0 among) in
        record {
          polynomials = c.more;
          one_a_column = let n = c.one_a_column in omega (arith, n);
          degree = c.degree;
          enough = c.enough;
          constants = sym is ∙ ap (λ (a : Agreement). a.block) c.is;
        },
    λ y.
        let a : Agreement = agreement_on answers y.polynomials in
        let c : ContinuesFrom (agreement_on answers) (decoding answers width t h) [] a = record {
          more = y.polynomials;
          one_a_column = let n = y.one_a_column in omega (arith, n);
          degree = y.degree;
          enough = y.enough;
          is = refl;
        } in
        subst (Contains (map (λ a. a.block) agreements)) (sym y.constants)
        (image-in (λ (a : Agreement). a.block) agreements a ((report.exact a).1 ((continues-agreement a).0 c))),
  )

  -- a list of its blocks in order is the listing
  pub reported-lists : (agreements : List Agreement) (blocks : List (List ℕ)) → IsReport answers width t h agreements
      → IsStrictlySortedBy (slice_cmp nat_cmp) blocks → HasBlocks blocks agreements → Lists blocks answers width t h
  reported-lists agreements blocks report ascending has =
      Lists-Gains answers width t h blocks filled ascending (λ b. (
        λ listed. inr ((reported-heavy agreements report b).0 ((has b).0 listed)),
        λ either. elim either [
          | inl none ↦ let l = none.1 in absurd (omega (arith, l))
          | inr heavy ↦ (has b).1 ((reported-heavy agreements report b).1 heavy)
        ],
      ))

  -- and the listing has the blocks of the report
  pub listed-reported : (agreements : List Agreement) (blocks : List (List ℕ)) → IsReport answers width t h agreements
      → Lists blocks answers width t h → HasBlocks blocks agreements
  listed-reported agreements blocks report lists b =
      let agreed = agreed_is_heavy answers width t h b filled in
      let heavy = reported-heavy agreements report b in
      (λ c. heavy.1 (agreed.0 ((lists.exact b).0 c)), λ c. (lists.exact b).1 (agreed.1 (heavy.0 c)))
