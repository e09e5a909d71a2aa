-- The narrowing of a candidate: what has come of the first polynomials of a column, of one more, and of all.
use Rattle.std.proofs.Common.{◌≡◌, ◌≢◌, ◌↔◌, ◌⊎◌, ℕ, zero, suc, ◌+◌, ◌<◌, ◌≤◌, List, [], ◌∷◌, ◌++◌, length, get_or, take, All, AllPairs, Contains, refl, sym, ap, subst, ◌∙◌, inl, inr, arith}
use Rattle.std.specs.List.{filter}
use Rattle.std.proofs.lemmas.List.{length-take-le, take_more, take_at, take-take}
use Rattle.std.proofs.lemmas.List.Elements.{Contains-get_or}
use Rattle.wire_frames.specs.Answer.{Answer}
use Rattle.column_runs.specs.OnOne.{LieOnOne}
use Rattle.block_decoder.specs.Agreed.{holds_first, Filled, HasColumns}
use Rattle.block_decoder.specs.Decoding.{Counters}
use Rattle.block_decoder.specs.Gains.{Gains}
use Rattle.block_decoder.specs.Narrowing.{agreement_on, list_nodes, holds_at, nexts_of, points_of, AreFarIn, CountsBy, Grew, IsCandidate, IsCandidateOf, IsCounted, IsExtended, IsPart, ContinuesFrom, ContinuesBy, HaveParted, ListsIn, progress, Progress, TurnsCounted, TurnsGained}
use Rattle.block_decoder.specs.Report.{Agreement, indices_of}
use Rattle.block_decoder.specs.declared.candidate.Candidate.{Candidate}
use Rattle.block_decoder.specs.declared.candidate.Parting.{Parting}
use Rattle.block_decoder.specs.declared.decoding.Decoding.{Decoding}
use Rattle.block_decoder.proofs.Candidates.{HaveDecoded, apart_after, run-fits, after, exact-end, counts-end, exact-below, counts-below, counts-next, not_before, with_next, fewer}
use Rattle.block_decoder.proofs.Continued.{continues-by_none, continues-by_more}
use Rattle.block_decoder.proofs.Continues.{Gains-none, Gains-same, Gains-both}
use Rattle.block_decoder.proofs.Kept.{part-All, part-different}
use Rattle.block_decoder.proofs.Visits.{counts-nothing, counts-none}

-- ---- the answers that are kept

module _ (d : Decoding) (kept : List Answer) (column : ℕ) (block : List ℕ) (c : IsCandidate d kept column block) where
  -- they are those at which the candidate's polynomials hold
  pub kept-part : IsPart d.answers kept
  kept-part = record { test = holds_first c.polynomials; is = c.held }

  -- so they are of different servers
  pub kept-different : AllPairs (λ a b. a.index ≢ b.index) d.answers → AllPairs (λ a b. a.index ≢ b.index) kept
  kept-different = part-different d.answers kept kept-part

  -- and as wide as all answers
  pub kept-wide : (m : ℕ) → Filled d.width d.answers → m ≤ d.width → All (λ a. m ≤ length a.payload) kept
  kept-wide m filled l =
      part-All d.answers kept kept-part (λ a. m ≤ length a.payload) (λ i z k. let size = filled i z k in omega (arith, size, l))

  -- with a byte in each column
  pub kept-beyond : (m : ℕ) → Filled d.width d.answers → m < d.width → All (λ a. m < length a.payload) kept
  kept-beyond m filled l =
      part-All d.answers kept kept-part (λ a. m < length a.payload) (λ i z k. let size = filled i z k in omega (arith, size, l))

-- ---- before the first polynomial, and where nothing was decoded

-- nothing was counted
pub counted-nothing : (d : Decoding) (candidate : Candidate) (block : List ℕ) (a b : Counters) → b.cols ≡ a.cols
    → b.nodes ≡ a.nodes → IsCounted d candidate block a b
counted-nothing d candidate block a b cols nodes = record {
  counts = λ c. counts-nothing d (list_nodes d) c.polynomials a b (omega (arith, cols)) (omega (arith, nodes));
  cols = omega (arith, cols);
  nodes = omega (arith, nodes);
}

-- nor below no polynomial
pub counted-none : (d : Decoding) (parting : Parting) (block : List ℕ) (a : Counters) → TurnsCounted [] d parting block a a
counted-none d parting block a = record {
  counts = λ c. counts-none d (list_nodes d) c.polynomials a;
  cols = omega arith;
  nodes = omega arith;
}

-- where no agreement is
pub gained-none : (d : Decoding) (parting : Parting) (a : Progress) → TurnsGained [] d parting a a
gained-none d parting a = record {
  gains = λ c. Gains-none (ContinuesBy (agreement_on d.answers) [] d c.polynomials) a.report
      (continues-by_none (agreement_on d.answers) d c.polynomials);
  found = inl refl;
}

-- ---- how many agreements are new

-- one polynomial more brings one more, or a list proper was made
pub grew-more : (d : Decoding) (i : ℕ) (old before new : List Agreement) (a b e : ℕ) → Grew d i old before a b
    → Grew d 1 before new b e → a ≤ b → b ≤ e → Grew d (i + 1) old new a e
grew-more d i old before new a b e (inl few) (inl one) rose rises = inl (omega (arith, few, one))
grew-more d i old before new a b e (inl few) (inr many) rose rises = inr (omega (arith, many, rose))
grew-more d i old before new a b e (inr many) one rose rises = inr (omega (arith, many, rises))

-- where there is one polynomial at most, one is new at most; and where there are several, a list proper was made
pub grew-one : (d : Decoding) (n : ℕ) (old new : List Agreement) (a b e : ℕ) → Grew d n old new b e
    → (1 < n → a + (d.degree + 1) ≤ b) → a ≤ b → b ≤ e → Grew d 1 old new a e
grew-one d n old new a b e (inr many) several rose rises = inr (omega (arith, many, rose))
grew-one d zero old new a b e (inl few) several rose rises = inl (omega (arith, few))
grew-one d (suc zero) old new a b e (inl few) several rose rises = inl few
grew-one d (suc (suc n)) old new a b e (inl few) several rose rises =
    let many = several (omega arith) in inr (omega (arith, many, rises))

-- ---- one polynomial more

module _ (d : Decoding) (parting : Parting) (at : HaveParted d parting) (i : ℕ) (p : List ℕ)
    (inside : i < length (nexts_of parting)) (item : get_or (nexts_of parting) i [] ≡ p) where
  -- it is one of the column's
  listed : Contains (nexts_of parting) p
  listed = subst (Contains (nexts_of parting)) item (Contains-get_or (nexts_of parting) i [] inside)

  -- so it has a constant
  pub next-some : 0 < length p
  next-some = let size = ((at.lists.exact p).0 listed).0.size in omega (arith, size)

  -- the first so many, and it
  grown : take (i + 1) (nexts_of parting) ≡ take i (nexts_of parting) ++ p ∷ []
  grown = take_more (nexts_of parting) i [] inside ∙ ap (λ (q : List ℕ). take i (nexts_of parting) ++ q ∷ []) item

  -- fewer answers are kept
  pub next-fewer : HasColumns d.width d.answers → (part : List Answer)
      → part ≡ filter (holds_at p parting.candidate.column) parting.candidate.kept.now
      → length part < length parting.candidate.kept.now
  next-fewer columns part part_is = fewer d columns parting p at listed part part_is

  module _ (columns : HasColumns d.width d.answers) (first block stored : List ℕ)
      (same : take parting.candidate.column block ≡ take parting.candidate.column first)
      (put : take (parting.candidate.column + 1) stored ≡ take parting.candidate.column block ++ get_or p 0 0 ∷ []) where
    -- these are a candidate
    pub next-candidate : (part : List Answer) → part ≡ filter (holds_at p parting.candidate.column) parting.candidate.kept.now
        → IsCandidateOf d parting.candidate first → IsCandidate d part (parting.candidate.column + 1) stored
    next-candidate part part_is c =
        with_next d columns parting p at listed part (parting.candidate.column + 1) first block stored part_is refl c same put

    -- what is counted below it is counted as well
    pub counted-more : (next : Candidate) (a b e : Counters)
        → TurnsCounted (take i (nexts_of parting)) d parting first a b → IsCounted d next stored b e
        → next.kept.now ≡ filter (holds_at p parting.candidate.column) parting.candidate.kept.now
        → next.column ≡ parting.candidate.column + 1
        → TurnsCounted (take (i + 1) (nexts_of parting)) d parting first a e
    counted-more next a b e before below part_is column_is =
        let most = list_nodes d in
        let nexts = nexts_of parting in
        let new : ¬ Contains (take i nexts) p =
        subst (λ (q : List ℕ). ¬ Contains (take i nexts) q) item (not_before nexts i at.lists.ascending inside) in
        let cols = before.cols in
        let more_cols = below.cols in
        let nodes = before.nodes in
        let more_nodes = below.nodes in
        record {
          counts = λ c. subst (λ (qs : List (List ℕ)). CountsBy qs d most c.polynomials a e) (sym grown)
              (counts-next d columns parting p at listed first c i most a b e new (before.counts c)
              (below.counts (with_next d columns parting p at listed next.kept.now next.column first block stored part_is column_is c same put)));
          cols = omega (arith, cols, more_cols);
          nodes = omega (arith, nodes, more_nodes);
        }

    -- and what is gained below it is gained
    pub gained-more : (next : Candidate) (current new : List ℕ) (r0 r1 r2 : List Agreement) (c0 c1 c2 : ℕ) → c0 ≤ c1 → c1 ≤ c2
        → TurnsGained (take i (nexts_of parting)) d parting (progress first r0 c0) (progress current r1 c1)
        → IsExtended d next (progress stored r1 c1) (progress new r2 c2)
        → next.kept.now ≡ filter (holds_at p parting.candidate.column) parting.candidate.kept.now
        → next.column ≡ parting.candidate.column + 1
        → TurnsGained (take (i + 1) (nexts_of parting)) d parting (progress first r0 c0) (progress new r2 c2)
    gained-more next current new r0 r1 r2 c0 c1 c2 up upper before extended part_is column_is =
        let made = agreement_on d.answers in
        let nexts = nexts_of parting in
        record {
          gains = λ c. Gains-both (ContinuesBy made (take i nexts) d c.polynomials) (ContinuesFrom made d (c.polynomials ++ p ∷ []))
              (ContinuesBy made (take (i + 1) nexts) d c.polynomials) r0 r1 r2 (before.gains c)
              (extended.exact (with_next d columns parting p at listed next.kept.now next.column first block stored part_is column_is c same put))
              (λ x. subst (λ (qs : List (List ℕ)). ContinuesBy made qs d c.polynomials x
              ↔ (ContinuesBy made (take i nexts) d c.polynomials x ⊎ ContinuesFrom made d (c.polynomials ++ p ∷ []) x))
              (sym grown) (continues-by_more made d c.polynomials (take i nexts) p x));
          found = elim extended.found [
            | inl unchanged ↦ elim before.found [
              | inl none ↦ inl (unchanged ∙ none)
              | inr l ↦ inr (omega (arith, l, upper))
            ]
            | inr l ↦ inr (omega (arith, l, up, column_is))
          ];
        }

    -- the columns before are as they were
    pub same-more : (new : List ℕ) → parting.candidate.column ≤ length block
        → take (parting.candidate.column + 1) new ≡ take (parting.candidate.column + 1) stored
        → take parting.candidate.column new ≡ take parting.candidate.column first
    same-more new room e =
        let column = parting.candidate.column in
        let up : column ≤ column + 1 = omega arith in
        sym (take-take column (column + 1) new up) ∙ ap (take column) (e ∙ put)
        ∙ take_at (take column block) (get_or p 0 0 ∷ []) column (length-take-le column block room) ∙ same

-- ---- the columns before, which were decoded in a run

module _ (d : Decoding) (candidate : Candidate) (n : ℕ) (old new : List ℕ) (have : HaveDecoded d candidate n old new) where
  -- they are no more than were left
  pub decoded-fits : candidate.column + n ≤ d.width
  decoded-fits = run-fits d candidate n old new have

  -- the candidate goes on behind them
  pub decoded-candidate : IsCandidateOf d candidate old
      → IsCandidate d candidate.kept.now (candidate.column + n) new
  decoded-candidate c = after d candidate n old new have candidate.kept.now (candidate.column + n) refl refl c

  -- where they are the last, they alone were counted
  pub counted-end : (a b : Counters) → b.cols ≡ a.cols + n → b.nodes ≡ a.nodes → IsCounted d candidate old a b
  counted-end a b cols nodes = record {
    counts = λ c. counts-end d candidate n old new have c (list_nodes d) a b cols nodes;
    cols = omega (arith, cols);
    nodes = omega (arith, nodes);
  }

  -- and one agreement was reported
  pub extended-end : candidate.column + n ≡ d.width → (r0 r1 : List Agreement) (c0 c1 : ℕ) → c1 ≡ c0 + n
      → Gains (λ x. x ≡ record { block = new; indices = indices_of candidate.kept.now }) r0 r1
      → IsExtended d candidate (progress old r0 c0) (progress new r1 c1)
  extended-end end r0 r1 c0 c1 cols gains =
      let IsMade : Agreement → Type 0 = λ x. x ≡ record { block = new; indices = indices_of candidate.kept.now } in
      record {
        block = have.same;
        exact = λ c. Gains-same IsMade (ContinuesFrom (agreement_on d.answers) d c.polynomials) r0 r1
            (exact-end d candidate n old new have end c) gains;
        some = λ left. omega (arith, cols, left, end);
        found = inr (omega (arith, cols, end));
      }

  -- where a column is left and no list of it could be made, that column may be counted beside them
  pub counted-tried : candidate.column + n < d.width → (a b : Counters) → b.cols ≤ a.cols + n + 1
      → b.nodes ≤ a.nodes + list_nodes d → (a.cols ≤ b.cols) × (a.nodes ≤ b.nodes)
      → ((b.nodes ≡ a.nodes) ⊎ AreFarIn d (points_of candidate.kept.now (candidate.column + n)))
      → IsCounted d candidate old a b
  counted-tried short a b cols nodes up far = record {
    counts = λ c.
        counts-below d candidate n old new have short [] c (list_nodes d) a b b cols nodes far (counts-none d (list_nodes d) _ b);
    cols = up.0;
    nodes = up.1;
  }

  module _ (parting : Parting) (kept_is : parting.candidate.kept.now ≡ candidate.kept.now)
      (column_is : parting.candidate.column ≡ candidate.column + n) where
    -- where one is left, the answers part in it
    pub parted : candidate.column + n < d.width
        → ListsIn d (points_of candidate.kept.now (candidate.column + n)) (nexts_of parting) → HaveParted d parting
    parted short lists =
        let points = ap (λ (part : List Answer). points_of part parting.candidate.column) kept_is
        ∙ ap (points_of candidate.kept.now) column_is in
        record {
          short = omega (arith, short, column_is);
          lists = subst (λ (ps : List (ℕ × ℕ)). ListsIn d ps (nexts_of parting)) (sym points) lists;
          apart = subst (λ (ps : List (ℕ × ℕ)). ¬ LieOnOne ps d.degree) (sym points) (apart_after d candidate n old new have short);
        }

    -- what is counted below its polynomials is counted as well
    pub counted-below : candidate.column + n < d.width → (nexts : List (List ℕ)) (a b e : Counters) → b.cols ≤ a.cols + n + 1
        → b.nodes ≤ a.nodes + list_nodes d → (a.cols ≤ b.cols) × (a.nodes ≤ b.nodes)
        → ((b.nodes ≡ a.nodes) ⊎ AreFarIn d (points_of candidate.kept.now (candidate.column + n)))
        → TurnsCounted nexts d parting new b e → IsCounted d candidate old a e
    counted-below short nexts a b e cols nodes up far below =
        let more_cols = below.cols in
        let more_nodes = below.nodes in
        record {
          counts = λ c. counts-below d candidate n old new have short nexts c (list_nodes d) a b e cols nodes far
              (below.counts (after d candidate n old new have parting.candidate.kept.now parting.candidate.column kept_is column_is c));
          cols = omega (arith, up, more_cols);
          nodes = omega (arith, up, more_nodes);
        }

    -- and what is gained below them is gained
    pub extended-below : HaveParted d parting → (block : List ℕ) (r0 r1 : List Agreement) (c0 c1 c2 : ℕ) → c0 + n < c1
        → c1 ≤ c2 → take parting.candidate.column block ≡ take parting.candidate.column new
        → TurnsGained (nexts_of parting) d parting (progress new r0 c1) (progress block r1 c2)
        → IsExtended d candidate (progress old r0 c0) (progress block r1 c2)
    extended-below at block r0 r1 c0 c1 c2 up upper as_before below =
        let column = candidate.column in
        let over : column ≤ column + n = omega arith in
        let short = at.short in
        let points = ap (λ (part : List Answer). points_of part parting.candidate.column) kept_is
        ∙ ap (points_of candidate.kept.now) column_is in
        let kept_block : take (column + n) block ≡ take (column + n) new =
        subst (λ (m : ℕ). take m block ≡ take m new) column_is as_before in
        record {
          block = sym (take-take column (column + n) block over) ∙ ap (take column) kept_block
              ∙ take-take column (column + n) new over ∙ have.same;
          exact = λ c. exact-below d candidate n old new have (omega (arith, short, column_is)) (nexts_of parting)
              (subst (λ (ps : List (ℕ × ℕ)). ListsIn d ps (nexts_of parting)) points at.lists) c r0 r1
              (below.gains (after d candidate n old new have parting.candidate.kept.now parting.candidate.column kept_is column_is c));
          some = λ left. omega (arith, up, upper);
          found = elim below.found [ inl e ↦ inl e | inr l ↦ inr (omega (arith, l, up, column_is)) ];
        }
