-- A candidate from one column to the next.
use Rattle.std.proofs.Common.{◌≡◌, ◌↔◌, ◌⊎◌, ℕ, ◌+◌, ◌<◌, ◌≤◌, List, [], ◌∷◌, ◌++◌, length, get_or, map, take, drop, Contains, Vec, Global, refl, sym, ap, ap₂, subst, ◌∙◌, arith, inl, inr, eqb-true}
use Rattle.std.specs.Cmp.Lexicographic.{slice_cmp}
use Rattle.std.specs.List.{filter}
use Rattle.std.specs.List.Sorted.{IsStrictlySortedBy}
use Rattle.std.specs.Ordering.{nat_cmp}
use Rattle.std.specs.declared.cmp.Ordering.TheVariants.{Less}
use Rattle.std.proofs.lemmas.Bool.{cases_lt}
use Rattle.std.proofs.lemmas.Cmp.{nat_list_cmp_total}
use Rattle.std.proofs.lemmas.List.{length-append, length-drop, map-append, take_all, get_or-take, length-take-le, get_or_default, get_or-map}
use Rattle.std.proofs.lemmas.List.Elements.{All-nil, All-cons, All-append, All-map}
use Rattle.std.proofs.lemmas.List.Sums.{length-filter}
use Rattle.std.proofs.lemmas.Map.Keys.{Less-from_sorted}
use Rattle.gf256.specs.Polynomial.{coef, val, IsPolynomial}
use Rattle.wire_frames.specs.Answer.{Answer}
use Rattle.column_lists.specs.Agreement.{agreements}
use Rattle.column_lists.proofs.Near.{agree-or-miss}
use Rattle.column_runs.specs.OnOne.{LieOnOne}
use Rattle.column_runs.specs.Run.{IsConstant}
use Rattle.block_decoder.specs.Agreed.{constants_of, holds_first, weight, HasColumns}
use Rattle.block_decoder.specs.Decoding.{Counters}
use Rattle.block_decoder.specs.Gains.{Gains}
use Rattle.block_decoder.specs.Narrowing.{agreement_on, holding, holds_at, nexts_of, points_of, AreFarIn, HaveParted, IsCandidate, IsCandidateOf, IsRunOf, ListsIn, ContinuesFrom, ContinuesBy, CountsFrom, CountsBy}
use Rattle.block_decoder.specs.Report.{Agreement, indices_of}
use Rattle.block_decoder.specs.declared.candidate.Candidate.{Candidate}
use Rattle.block_decoder.specs.declared.candidate.Parting.{Parting}
use Rattle.block_decoder.specs.declared.decoding.Decoding.{Decoding}
use Rattle.block_decoder.proofs.Continued.{continues-whole, continues-by}
use Rattle.block_decoder.proofs.Continues.{Gains-same}
use Rattle.block_decoder.proofs.Counting.{all_pass}
use Rattle.block_decoder.proofs.Holding.{filter-all, holding-more, weight-more}
use Rattle.block_decoder.proofs.Kept.{points_at-is, length-points}
use Rattle.block_decoder.proofs.Lists.{MissMany}
use Rattle.block_decoder.proofs.Members.{not_before_itself}
use Rattle.block_decoder.proofs.Runs.{HasRun, has_run, run-candidate}
use Rattle.block_decoder.proofs.Visits.{counts-more, counts-run, counts-whole}
use Rattle.block_decoder.proofs.Weight.{holds_first-true}

-- ---- lists

-- an element of a strictly ascending list is not one of those before it
pub not_before : (list : List (List ℕ)) (i : ℕ) → IsStrictlySortedBy (slice_cmp nat_cmp) list → i < length list
    → ¬ Contains (take i list) (get_or list i [])
not_before list i ascending l (k, within, is) =
    let size = length-take-le i list (omega (arith, l)) in
    let below : k < i = omega (arith, within, size) in
    let same : get_or list k [] ≡ get_or list i [] = sym (get_or-take i list k [] below) ∙ get_or_default (take i list) k [] (get_or list i []) within ∙ is in
    let less = Less-from_sorted (slice_cmp nat_cmp) list k i [] ascending below l in
    not_before_itself nat_list_cmp_total (get_or list i []) (subst (λ (p : List ℕ). slice_cmp nat_cmp p (get_or list i []) ≡ Less) same less)

-- ---- before the first column

-- all answers are kept
pub holding-none : (answers : List Answer) → holding [] answers ≡ answers
holding-none answers = filter-all (holds_first []) answers (λ i d l. holds_first-true [] (get_or answers i d) (omega arith) (λ k m. absurd (omega (arith, m))))

-- so they are the first candidate
abbrev pub first-candidate : (d : Decoding) (block : List ℕ) → d.agreement ≤ length d.answers
    → IsCandidate d d.answers 0 block
first-candidate d block enough = record {
  polynomials = [];
  one_a_column = refl;
  degree = All-nil (IsPolynomial d.degree);
  held = sym (holding-none d.answers);
  enough = enough;
  constants = refl;
}

-- ---- where the answers are close to no polynomial

-- each polynomial of the column misses many of them
miss-many : (d : Decoding) → HasColumns d.width d.answers → (kept : List Answer) (column : ℕ) (block : List ℕ)
    → (c : IsCandidate d kept column block) → column < d.width → AreFarIn d (points_of kept column)
    → MissMany d c.polynomials
miss-many d columns kept column block c short far =
    let enough = far.enough in
    let size = length-points kept column in
    let now : weight c.polynomials d.answers ≡ length kept =
    sym (length-filter (holds_first c.polynomials) d.answers) ∙ ap length (sym c.held) in
    record {
      enough = omega (arith, enough, size, now);
      fewer = λ p degree.
          let then = weight-more d.answers d.width column c.polynomials p columns.filled c.one_a_column short
          ∙ ap (λ (part : List Answer). agreements p (points_of part column)) (sym c.held) in
          let all = agree-or-miss p (points_of kept column) in
          let off = far.each_misses p degree in
          omega (arith, then, all, off, size, now);
    }

-- ---- after a run

-- so many columns of a candidate were decoded in a run, and the block is new
pub record HaveDecoded (d : Decoding) (candidate : Candidate) (n : ℕ) (old new : List ℕ) : Type 0 where
  pub columns : HasColumns d.width d.answers
  pub more_than : d.degree < d.agreement
  pub fits : candidate.column ≤ d.width
  pub size : length new ≡ d.width
  pub same : take candidate.column new ≡ take candidate.column old
  pub run : IsRunOf candidate.kept.now d.degree candidate.column (drop candidate.column new) n

module _ (d : Decoding) (candidate : Candidate) (n : ℕ) (old new : List ℕ) (have : HaveDecoded d candidate n old new) where
  -- they are no more than were left
  pub run-fits : candidate.column + n ≤ d.width
  run-fits =
      let l = have.run.within in
      let m = length-drop candidate.column new in
      let size = have.size in
      let fits = have.fits in
      omega (arith, l, m, size, fits)

  -- the candidate has the polynomials of the run
  pub run_of : (c : IsCandidateOf d candidate old)
      → HasRun d c.polynomials n (drop candidate.column new)
  run_of c =
      let kept = candidate.kept.now in
      let bytes = drop candidate.column new in
      let long = c.one_a_column in
      let held = ap length c.held in
      let enough = c.enough in
      let within = run-fits in
      has_run d have.columns have.more_than c.polynomials c.degree (omega (arith, held, enough)) n bytes have.run.within (omega (arith, long, within))
      (λ k l. subst (λ (ps : List (ℕ × ℕ)). IsConstant ps d.degree (get_or bytes k 0))
      (points_at-is kept (candidate.column + k) ∙ ap₂ (λ (part : List Answer) (m : ℕ). points_of part (m + k)) c.held (sym long)) (have.run.constants k l))

  -- in the column behind the run the points lie on no one polynomial
  pub apart_after : candidate.column + n < d.width → ¬ LieOnOne (points_of candidate.kept.now (candidate.column + n)) d.degree
  apart_after short =
      let m = length-drop candidate.column new in
      let size = have.size in
      subst (λ (ps : List (ℕ × ℕ)). ¬ LieOnOne ps d.degree) (points_at-is candidate.kept.now (candidate.column + n))
      (have.run.longest (omega (arith, m, size, short)))

  -- it goes on behind the run with all its answers
  abbrev pub after : (part : List Answer) (next : ℕ) → part ≡ candidate.kept.now → next ≡ candidate.column + n
      → (c : IsCandidateOf d candidate old) → IsCandidate d part next new
  after part next part_is next_is c =
      run-candidate d candidate.kept.now candidate.column n old new part next part_is next_is c have.same (run_of c)

  -- with the same answers, in the column behind it
  abbrev behind : (c : IsCandidateOf d candidate old)
      → IsCandidate d candidate.kept.now (candidate.column + n) new
  behind c = after candidate.kept.now (candidate.column + n) refl refl c

  -- its polynomials hold at enough answers
  pub heavy_after : (c : IsCandidateOf d candidate old)
      → d.agreement ≤ weight (c.polynomials ++ (run_of c).more) d.answers
  heavy_after c =
      let a = behind c in
      let e = a.enough in
      let k = ap length a.held in
      let f = length-filter (holds_first a.polynomials) d.answers in
      omega (arith, e, k, f)

  -- at the last column it is continued to the block with the answers that are kept
  pub exact-end : candidate.column + n ≡ d.width → (c : IsCandidateOf d candidate old) → (b : Agreement)
      → (b ≡ record { block = new; indices = indices_of candidate.kept.now })
      ↔ ContinuesFrom (agreement_on d.answers) d c.polynomials b
  exact-end end c b =
      let a = behind c in
      let size = have.size in
      let whole = continues-whole (agreement_on d.answers) d a.polynomials (a.one_a_column ∙ end) (heavy_after c) b in
      let block : new ≡ constants_of a.polynomials = sym (take_all (candidate.column + n) new (omega (arith, end, size))) ∙ a.constants in
      let made : ◌≡◌ {A = Agreement} (record { block = new; indices = indices_of candidate.kept.now }) (agreement_on d.answers a.polynomials) =
      ap₂ (λ (b : List ℕ) (part : List Answer). record { block = b; indices = indices_of part }) block a.held in
      let is = (run_of c).same b in
      (λ e. is.0 (whole.0 (e ∙ made)), λ f. whole.1 (is.1 f) ∙ sym made)

  -- there, the columns of the run alone were decoded
  pub counts-end : (c : IsCandidateOf d candidate old) (most : ℕ) (a b : Counters)
      → b.cols ≡ a.cols + n → b.nodes ≡ a.nodes → CountsFrom d most c.polynomials a b
  counts-end c most a b cols nodes =
      counts-run d most c.polynomials n (drop candidate.column new) a b (run_of c) (omega (arith, cols)) (omega (arith, nodes))

  -- before it, to those of its next polynomials
  pub exact-below : candidate.column + n < d.width → (nexts : List (List ℕ))
      → ListsIn d (points_of candidate.kept.now (candidate.column + n)) nexts
      → (c : IsCandidateOf d candidate old) (first last : List Agreement)
      → Gains (ContinuesBy (agreement_on d.answers) nexts d (c.polynomials ++ (run_of c).more)) first last
      → Gains (ContinuesFrom (agreement_on d.answers) d c.polynomials) first last
  exact-below short nexts lists c first last gains =
      let a = behind c in
      let made = agreement_on d.answers in
      let long = a.one_a_column in
      let by = continues-by made d a.polynomials have.columns.filled (omega (arith, long, short)) nexts
      (subst (λ (ps : List (ℕ × ℕ)). ListsIn d ps nexts) (ap₂ (λ (part : List Answer) (m : ℕ). points_of part m) a.held (sym long)) lists) in
      Gains-same (ContinuesBy made nexts d a.polynomials) (ContinuesFrom made d c.polynomials) first last
      (λ b. let is = (run_of c).same b in (λ x. is.0 ((by b).0 x), λ y. (by b).1 (is.1 y))) gains

  -- with what is below these
  pub counts-below : candidate.column + n < d.width → (nexts : List (List ℕ))
      (c : IsCandidateOf d candidate old) (most : ℕ) (a b e : Counters) → b.cols ≤ a.cols + n + 1
      → b.nodes ≤ a.nodes + most → ((b.nodes ≡ a.nodes) ⊎ AreFarIn d (points_of candidate.kept.now (candidate.column + n)))
      → CountsBy nexts d most (c.polynomials ++ (run_of c).more) b e → CountsFrom d most c.polynomials a e
  counts-below short nexts c most a b e cols nodes far below =
      let long = c.one_a_column in
      counts-whole d most c.polynomials n (drop candidate.column new) nexts a b e (run_of c) c.degree (omega (arith, long, short)) (heavy_after c) cols nodes
      (elim far [
        | inl same ↦ inl (omega (arith, same))
        | inr are ↦ inr (miss-many d have.columns candidate.kept.now (candidate.column + n) new (behind c) short are)
      ])
      below

-- ---- one polynomial more

module _ (d : Decoding) (columns : HasColumns d.width d.answers) (parting : Parting) (p : List ℕ)
    (at : HaveParted d parting) (listed : Contains (nexts_of parting) p) where
  -- enough of the answers lie on it
  pub next_enough : (old : List ℕ) (c : IsCandidateOf d parting.candidate old)
      → d.agreement ≤ length (filter (holds_at p parting.candidate.column) parting.candidate.kept.now)
  next_enough old c =
      let kept = parting.candidate.kept.now in
      let column = parting.candidate.column in
      let agrees = (at.lists.exact p).0 listed in
      let many = agrees.1 in
      let heavy = weight-more d.answers d.width column c.polynomials p columns.filled c.one_a_column at.short in
      let points = ap (λ (part : List Answer). agreements p (points_of part column)) c.held in
      let size = length-filter (holds_first (c.polynomials ++ p ∷ [])) d.answers in
      let held = ap length (ap (filter (holds_at p column)) c.held ∙ sym (holding-more d.answers d.width column c.polynomials p columns.filled c.one_a_column at.short)) in
      omega (arith, many, heavy, points, size, held)

  -- its constant is the next byte
  pub next_constants : (old block stored : List ℕ) (c : IsCandidateOf d parting.candidate old)
      → take parting.candidate.column block ≡ take parting.candidate.column old
      → take (parting.candidate.column + 1) stored ≡ take parting.candidate.column block ++ get_or p 0 0 ∷ []
      → take (parting.candidate.column + 1) stored ≡ constants_of (c.polynomials ++ p ∷ [])
  unfolding coef
  next_constants old block stored c same put =
      put ∙ ap (λ (bs : List ℕ). bs ++ get_or p 0 0 ∷ []) (same ∙ c.constants) ∙ sym (map-append (λ p. coef p 0) c.polynomials (p ∷ []))

  -- so those on it are a candidate of the next column
  abbrev pub with_next : (part : List Answer) (next : ℕ) (old block stored : List ℕ)
      → part ≡ filter (holds_at p parting.candidate.column) parting.candidate.kept.now
      → next ≡ parting.candidate.column + 1 → (c : IsCandidateOf d parting.candidate old)
      → take parting.candidate.column block ≡ take parting.candidate.column old
      → take (parting.candidate.column + 1) stored ≡ take parting.candidate.column block ++ get_or p 0 0 ∷ []
      → IsCandidate d part next stored
  with_next part next old block stored part_is next_is c same put =
      let column = parting.candidate.column in
      record {
        polynomials = c.polynomials ++ p ∷ [];
        one_a_column = length-append c.polynomials (p ∷ []) ∙ ap (λ m. m + 1) c.one_a_column ∙ sym next_is;
        degree = All-append (IsPolynomial d.degree) c.polynomials (p ∷ []) c.degree
            (All-cons (IsPolynomial d.degree) p [] ((at.lists.exact p).0 listed).0 (All-nil (IsPolynomial d.degree)));
        held = part_is ∙ ap (filter (holds_at p column)) c.held
            ∙ sym (holding-more d.answers d.width column c.polynomials p columns.filled c.one_a_column at.short);
        enough = subst (λ (l : List Answer). d.agreement ≤ length l) (sym part_is) (next_enough old c);
        constants = ap (λ (m : ℕ). take m stored) next_is ∙ next_constants old block stored c same put;
      }

  -- since the points lie on no one polynomial, fewer are kept
  pub fewer : (part : List Answer) → part ≡ filter (holds_at p parting.candidate.column) parting.candidate.kept.now
      → length part < length parting.candidate.kept.now
  fewer part part_is =
      let kept = parting.candidate.kept.now in
      let column = parting.candidate.column in
      let size = ap length part_is in
      elim (cases_lt (length (filter (holds_at p column) kept)) (length kept)) [
        | inl less ↦ omega (arith, less, size)
        | inr all ↦
            let count = length-filter (holds_at p column) kept in
            let full = all_pass (holds_at p column) kept (omega (arith, all, count)) in
            absurd (at.apart (
              p,
              ((at.lists.exact p).0 listed).0,
              All-map (λ (q : ℕ × ℕ). val p q.0 ≡ q.1) (λ (a : Answer). (a.index, get_or a.payload column 0)) kept
                  (λ k z l. eqb-true _ _ (full k z l)),
            ))
      ]

  -- what is below it as well
  pub counts-next : (old : List ℕ) (c : IsCandidateOf d parting.candidate old) (i most : ℕ) (a b e : Counters)
      → ¬ Contains (take i (nexts_of parting)) p → CountsBy (take i (nexts_of parting)) d most c.polynomials a b
      → CountsFrom d most (c.polynomials ++ p ∷ []) b e
      → CountsBy (take i (nexts_of parting) ++ p ∷ []) d most c.polynomials a e
  counts-next old c i most a b e new before below =
      counts-more d most c.polynomials (take i (nexts_of parting)) p a b e columns c.degree ((at.lists.exact p).0 listed).0 new before below

-- the item of a loop over vectors
pub item_is : (vectors : List (Vec ℕ Global)) (i : ℕ) (v : Vec ℕ Global) → i < length vectors
    → v ≡ get_or vectors i v → get_or (map (λ (v : Vec ℕ Global). v.items) vectors) i [] ≡ v.items
item_is vectors i v l is = get_or-map (λ (v : Vec ℕ Global). v.items) vectors i v [] l ∙ ap (λ (v : Vec ℕ Global). v.items) (sym is)
