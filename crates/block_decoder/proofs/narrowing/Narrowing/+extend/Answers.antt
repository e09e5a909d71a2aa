use Rattle.std.proofs.Common.{◌≡◌, ◌≢◌, ◌+◌, ◌-◌, ◌<◌, ◌≤◌, ℕ, List, [], length, get_or, map, take, Vec, Global, inl, refl, sym, ap, subst, ◌∙◌, arith, le_of_lt}
use Rattle.std.proofs.Math.Nat.{le-add_right}
use Rattle.std.proofs.lemmas.List.{length-map, take_all}
use Rattle.std.proofs.lemmas.Result.{IfOk-from_err, on_ok_weaker}
use Rattle.block_decoder.specs.Decoding.{counters}
use Rattle.block_decoder.specs.Gains.{Gains}
use Rattle.block_decoder.specs.Narrowing.{nexts_of, progress, Grew, HaveExtended, HaveParted, IsExtended, TurnsGained}
use Rattle.block_decoder.specs.Report.{Agreement, indices_of}
use Rattle.block_decoder.specs.declared.candidate.Candidate.{Candidate}
use Rattle.block_decoder.specs.declared.candidate.Parting.{Parting}
use Rattle.block_decoder.proofs.Candidates.{HaveDecoded, item_is}
use Rattle.block_decoder.proofs.Costs.{part-listed, part-nodes}
use Rattle.block_decoder.proofs.Turns.{decoded-fits, decoded-candidate, parted, counted-nothing, counted-end, counted-tried, extended-end, counted-none, gained-none, counted-below, counted-more, gained-more, same-more, extended-below, grew-more, grew-one, kept-part, kept-different, kept-wide, kept-beyond, next-some, next-fewer, next-candidate}
use Rattle.block_decoder.proofs.narrowing.Narrowing.+extend.Goals as goal

-- ---- what is said by facts that stand there, so that nothing is searched for

-- where the columns aren't all decoded, one is left
below-width : (a b : ℕ) → a ≤ b → a ≢ b → a < b
below-width a b l n = omega (arith, l, n)

-- the next column is no further than the last
next-fits : (a b : ℕ) → a < b → a + 1 ≤ b
next-fits a b l = omega (arith, l)

-- there are more answers than the degree
after-less : (h t k : ℕ) → h ≤ k → t < h → t < k
after-less h t k l m = omega (arith, l, m)

-- one polynomial fewer is left
fewer-left : (i n : ℕ) → i < n → n - (i + 1) < n - i
fewer-left i n l = omega (arith, l)

-- a column more than were decoded
one-more : (c0 c1 c2 n : ℕ) → c1 ≡ c0 + n → c2 ≤ c1 + 1 → c2 ≤ c0 + n + 1
one-more c0 c1 c2 n e l = omega (arith, e, l)

-- no fewer than before
no-fewer : (c0 c1 c2 n : ℕ) → c1 ≡ c0 + n → c1 ≤ c2 → c0 ≤ c2
no-fewer c0 c1 c2 n e l = omega (arith, e, l)

-- more than were decoded
more-than : (c0 c1 c2 n : ℕ) → c1 ≡ c0 + n → c1 < c2 → c0 + n < c2
more-than c0 c1 c2 n e l = omega (arith, e, l)

-- ---- extend

pub extend-decode-requires : goal.extend-decode-requires
extend-decode-requires g t c =
    let d = c.args.self.now.decoding in
    let candidate = c.args.candidate.now in
    let block = c.args.block.now in
    let width = c.requires.width in
    record {
      column = subst (λ (n : ℕ). candidate.column ≤ n) (sym width) c.requires.column;
      enough = after-less d.agreement d.degree (length candidate.kept.now) c.requires.candidate.enough c.args.self.now.listed.redundant;
      widths = kept-wide d candidate.kept.now candidate.column block c.requires.candidate (length block) c.args.self.now.columns.filled (omega (arith, width));
      distinct = kept-different d candidate.kept.now candidate.column block c.requires.candidate c.args.self.now.columns.different;
    }

pub extend-returns-in_err-decoded-clause-size : goal.extend-returns-in_err-decoded-clause-size
extend-returns-in_err-decoded-clause-size g t c = c.in_err-decoded.ensures.size

pub extend-returns-in_err-decoded-clause-ascending : goal.extend-returns-in_err-decoded-clause-ascending
extend-returns-in_err-decoded-clause-ascending g t c = c.requires.ascending

pub extend-returns-in_err-decoded-clause-counted : goal.extend-returns-in_err-decoded-clause-counted
extend-returns-in_err-decoded-clause-counted g t c =
    counted-nothing c.args.self.now.decoding c.args.candidate.now c.args.block.now (counters c.args.cols.now c.args.nodes.now)
    (counters c.decode.new.cols c.args.nodes.now) c.in_err-decoded.ensures.cols refl

pub extend-returns-in_err-decoded-clause-extended : goal.extend-returns-in_err-decoded-clause-extended
extend-returns-in_err-decoded-clause-extended g t c = IfOk-from_err c.from_residual.result _ c.from_residual.ensures.0

pub extend-overflow_add-next : goal.extend-overflow_add-next
extend-overflow_add-next g t c =
    let d = c.args.self.now.decoding in
    let candidate = c.args.candidate.now in
    let kept = candidate.kept.now in
    let n = c.in_ok-decoded.decoded in
    let have : HaveDecoded d candidate n c.args.block.now c.decode.new.block = record {
      columns = c.args.self.now.columns;
      more_than = c.args.self.now.listed.redundant;
      fits = c.requires.column;
      size = c.in_ok-decoded.ensures.size ∙ c.requires.width;
      same = c.in_ok-decoded.ensures.kept;
      run = c.in_ok-decoded.ensures.run;
    } in
    let fits = decoded-fits d candidate n c.args.block.now c.decode.new.block have in
    omega (arith, fits)

pub extend-add-requires : goal.extend-add-requires
extend-add-requires g t c = c.requires.ascending

pub extend-returns-then-next-self-clause-size : goal.extend-returns-then-next-self-clause-size
extend-returns-then-next-self-clause-size g t c = c.in_ok-decoded.ensures.size

pub extend-returns-then-next-self-clause-ascending : goal.extend-returns-then-next-self-clause-ascending
extend-returns-then-next-self-clause-ascending g t c = c.add.ensures.ascending

pub extend-returns-then-next-self-clause-counted : goal.extend-returns-then-next-self-clause-counted
extend-returns-then-next-self-clause-counted g t c =
    let d = c.args.self.now.decoding in
    let candidate = c.args.candidate.now in
    let kept = candidate.kept.now in
    let n = c.in_ok-decoded.decoded in
    let have : HaveDecoded d candidate n c.args.block.now c.decode.new.block = record {
      columns = c.args.self.now.columns;
      more_than = c.args.self.now.listed.redundant;
      fits = c.requires.column;
      size = c.in_ok-decoded.ensures.size ∙ c.requires.width;
      same = c.in_ok-decoded.ensures.kept;
      run = c.in_ok-decoded.ensures.run;
    } in
    counted-end d candidate n c.args.block.now c.decode.new.block have (counters c.args.cols.now c.args.nodes.now)
    (counters c.decode.new.cols c.args.nodes.now) c.in_ok-decoded.ensures.cols refl

pub extend-returns-then-next-self-clause-extended : goal.extend-returns-then-next-self-clause-extended
extend-returns-then-next-self-clause-extended g t c =
    let d = c.args.self.now.decoding in
    let candidate = c.args.candidate.now in
    let kept = candidate.kept.now in
    let n = c.in_ok-decoded.decoded in
    let have : HaveDecoded d candidate n c.args.block.now c.decode.new.block = record {
      columns = c.args.self.now.columns;
      more_than = c.args.self.now.listed.redundant;
      fits = c.requires.column;
      size = c.in_ok-decoded.ensures.size ∙ c.requires.width;
      same = c.in_ok-decoded.ensures.kept;
      run = c.in_ok-decoded.ensures.run;
    } in
    on_ok_weaker {Q = IsExtended d candidate (progress c.args.block.now c.args.report.now c.args.cols.now) (progress c.decode.new.block c.add.new.self c.decode.new.cols)} c.add.result
    (λ (gains : Gains (λ (a : Agreement). a ≡ record { block = c.decode.new.block; indices = indices_of kept }) c.args.report.now c.add.new.self).
    extended-end d candidate n c.args.block.now c.decode.new.block have c.if-next-self.true c.args.report.now c.add.new.self
    c.args.cols.now c.decode.new.cols c.in_ok-decoded.ensures.cols gains)
    c.add.ensures.ok

pub extend-list-requires : goal.extend-list-requires
extend-list-requires g t c =
    let d = c.args.self.now.decoding in
    let candidate = c.args.candidate.now in
    let kept = candidate.kept.now in
    let n = c.in_ok-decoded.decoded in
    let have : HaveDecoded d candidate n c.args.block.now c.decode.new.block = record {
      columns = c.args.self.now.columns;
      more_than = c.args.self.now.listed.redundant;
      fits = c.requires.column;
      size = c.in_ok-decoded.ensures.size ∙ c.requires.width;
      same = c.in_ok-decoded.ensures.kept;
      run = c.in_ok-decoded.ensures.run;
    } in
    let fits = decoded-fits d candidate n c.args.block.now c.decode.new.block have in
    let short : candidate.column + n < d.width = below-width (candidate.column + n) d.width fits c.if-next-self.false in
    record {
      column = kept-beyond d kept candidate.column c.args.block.now c.requires.candidate (candidate.column + n) have.columns.filled short;
      enough = c.requires.candidate.enough;
      listed = part-listed d.answers kept d.degree d.agreement (kept-part d kept candidate.column c.args.block.now c.requires.candidate) c.args.self.now.listed;
    }

pub extend-returns-in_err-polynomials-clause-size : goal.extend-returns-in_err-polynomials-clause-size
extend-returns-in_err-polynomials-clause-size g t c = c.in_ok-decoded.ensures.size

pub extend-returns-in_err-polynomials-clause-ascending : goal.extend-returns-in_err-polynomials-clause-ascending
extend-returns-in_err-polynomials-clause-ascending g t c = c.requires.ascending

pub extend-returns-in_err-polynomials-clause-counted : goal.extend-returns-in_err-polynomials-clause-counted
extend-returns-in_err-polynomials-clause-counted g t c =
    let d = c.args.self.now.decoding in
    let candidate = c.args.candidate.now in
    let kept = candidate.kept.now in
    let n = c.in_ok-decoded.decoded in
    let have : HaveDecoded d candidate n c.args.block.now c.decode.new.block = record {
      columns = c.args.self.now.columns;
      more_than = c.args.self.now.listed.redundant;
      fits = c.requires.column;
      size = c.in_ok-decoded.ensures.size ∙ c.requires.width;
      same = c.in_ok-decoded.ensures.kept;
      run = c.in_ok-decoded.ensures.run;
    } in
    let fits = decoded-fits d candidate n c.args.block.now c.decode.new.block have in
    let short : candidate.column + n < d.width = below-width (candidate.column + n) d.width fits c.if-next-self.false in
    let tried = c.in_err-polynomials.ensures in
    let part = kept-part d kept candidate.column c.args.block.now c.requires.candidate in
    counted-tried d candidate n c.args.block.now c.decode.new.block have short (counters c.args.cols.now c.args.nodes.now)
    (counters c.list.new.cols c.list.new.nodes) (one-more c.args.cols.now c.decode.new.cols c.list.new.cols n c.in_ok-decoded.ensures.cols tried.cols)
    (part-nodes d.answers kept d.degree d.agreement part c.args.self.now.listed c.args.nodes.now c.list.new.nodes tried.nodes)
    (no-fewer c.args.cols.now c.decode.new.cols c.list.new.cols n c.in_ok-decoded.ensures.cols tried.rises.0, tried.rises.1) tried.far

pub extend-returns-in_err-polynomials-clause-extended : goal.extend-returns-in_err-polynomials-clause-extended
extend-returns-in_err-polynomials-clause-extended g t c = IfOk-from_err c.from_residual-in_err-polynomials.result _ c.from_residual-in_err-polynomials.ensures.0

-- the parting behind the run
abbrev parting_after : Candidate → ℕ → Vec (Vec ℕ Global) Global → Parting
parting_after candidate n polynomials = record {
  candidate = record { kept = candidate.kept; column = candidate.column + n };
  polynomials = polynomials;
}

pub extend-extend_by_each-requires : goal.extend-extend_by_each-requires
extend-extend_by_each-requires g t c κs within =
    let d = c.args.self.now.decoding in
    let candidate = c.args.candidate.now in
    let kept = candidate.kept.now in
    let n = c.in_ok-decoded.decoded in
    let have : HaveDecoded d candidate n c.args.block.now c.decode.new.block = record {
      columns = c.args.self.now.columns;
      more_than = c.args.self.now.listed.redundant;
      fits = c.requires.column;
      size = c.in_ok-decoded.ensures.size ∙ c.requires.width;
      same = c.in_ok-decoded.ensures.kept;
      run = c.in_ok-decoded.ensures.run;
    } in
    let fits = decoded-fits d candidate n c.args.block.now c.decode.new.block have in
    let short : candidate.column + n < d.width = below-width (candidate.column + n) d.width fits c.if-next-self.false in
    let parting = parting_after candidate n c.in_ok-polynomials.polynomials in (
      omega (arith, c.decreases),
      (
        within.0,
        (
          within.1.0,
          (
            within.1.1,
            (
              c.in_ok-decoded.ensures.size ∙ c.requires.width,
              (
                parted d candidate n c.args.block.now c.decode.new.block have parting refl refl short c.in_ok-polynomials.ensures.exact,
                (decoded-candidate d candidate n c.args.block.now c.decode.new.block have c.requires.candidate, c.requires.ascending),
              ),
            ),
          ),
        ),
      ),
    )

pub extend-returns-clause-size : goal.extend-returns-clause-size
extend-returns-clause-size g t c = c.extend_by_each.ensures.size ∙ c.in_ok-decoded.ensures.size

pub extend-returns-clause-ascending : goal.extend-returns-clause-ascending
extend-returns-clause-ascending g t c = c.extend_by_each.ensures.ascending

pub extend-returns-clause-counted : goal.extend-returns-clause-counted
extend-returns-clause-counted g t c =
    let d = c.args.self.now.decoding in
    let candidate = c.args.candidate.now in
    let kept = candidate.kept.now in
    let n = c.in_ok-decoded.decoded in
    let have : HaveDecoded d candidate n c.args.block.now c.decode.new.block = record {
      columns = c.args.self.now.columns;
      more_than = c.args.self.now.listed.redundant;
      fits = c.requires.column;
      size = c.in_ok-decoded.ensures.size ∙ c.requires.width;
      same = c.in_ok-decoded.ensures.kept;
      run = c.in_ok-decoded.ensures.run;
    } in
    let fits = decoded-fits d candidate n c.args.block.now c.decode.new.block have in
    let short : candidate.column + n < d.width = below-width (candidate.column + n) d.width fits c.if-next-self.false in
    let parting = parting_after candidate n c.in_ok-polynomials.polynomials in
    let tried = c.in_ok-polynomials.ensures in
    let part = kept-part d kept candidate.column c.args.block.now c.requires.candidate in
    let below = c.extend_by_each.ensures.counted in
    counted-below d candidate n c.args.block.now c.decode.new.block have parting refl refl short (take below.count (nexts_of parting))
    (counters c.args.cols.now c.args.nodes.now) (counters c.list.new.cols c.list.new.nodes)
    (counters c.extend_by_each.new.cols c.extend_by_each.new.nodes)
    (one-more c.args.cols.now c.decode.new.cols c.list.new.cols n c.in_ok-decoded.ensures.cols tried.cols)
    (part-nodes d.answers kept d.degree d.agreement part c.args.self.now.listed c.args.nodes.now c.list.new.nodes tried.nodes)
    (no-fewer c.args.cols.now c.decode.new.cols c.list.new.cols n c.in_ok-decoded.ensures.cols tried.rises.0, tried.rises.1) tried.far
    below.counted

pub extend-returns-clause-extended : goal.extend-returns-clause-extended
extend-returns-clause-extended g t c =
    let d = c.args.self.now.decoding in
    let candidate = c.args.candidate.now in
    let kept = candidate.kept.now in
    let n = c.in_ok-decoded.decoded in
    let have : HaveDecoded d candidate n c.args.block.now c.decode.new.block = record {
      columns = c.args.self.now.columns;
      more_than = c.args.self.now.listed.redundant;
      fits = c.requires.column;
      size = c.in_ok-decoded.ensures.size ∙ c.requires.width;
      same = c.in_ok-decoded.ensures.kept;
      run = c.in_ok-decoded.ensures.run;
    } in
    let fits = decoded-fits d candidate n c.args.block.now c.decode.new.block have in
    let short : candidate.column + n < d.width = below-width (candidate.column + n) d.width fits c.if-next-self.false in
    let parting = parting_after candidate n c.in_ok-polynomials.polynomials in
    let at : HaveParted d parting =
    parted d candidate n c.args.block.now c.decode.new.block have parting refl refl short c.in_ok-polynomials.ensures.exact in
    let new = c.extend_by_each.new in
    on_ok_weaker {Q = IsExtended d candidate (progress c.args.block.now c.args.report.now c.args.cols.now) (progress new.block new.report new.cols)} c.extend_by_each.result
    (λ (below : HaveExtended d parting (progress c.decode.new.block c.args.report.now c.list.new.cols) (progress new.block new.report new.cols)).
    extended-below d candidate n c.args.block.now c.decode.new.block have parting refl refl at new.block c.args.report.now new.report
    c.args.cols.now c.list.new.cols new.cols (more-than c.args.cols.now c.decode.new.cols c.list.new.cols n c.in_ok-decoded.ensures.cols c.in_ok-polynomials.ensures.some)
    c.extend_by_each.ensures.counted.counted.cols below.block below.gained)
    c.extend_by_each.ensures.extended

pub extend-returns-in_err-decoded-clause-several : goal.extend-returns-in_err-decoded-clause-several
extend-returns-in_err-decoded-clause-several g t c = IfOk-from_err c.from_residual.result _ c.from_residual.ensures.0

pub extend-returns-then-next-self-clause-several : goal.extend-returns-then-next-self-clause-several
extend-returns-then-next-self-clause-several g t c =
    on_ok_weaker {Q = Grew c.args.self.now.decoding 1 c.args.report.now c.add.new.self c.args.nodes.now c.args.nodes.now} c.add.result
    (λ gains. inl c.add.ensures.one) c.add.ensures.ok

pub extend-returns-in_err-polynomials-clause-several : goal.extend-returns-in_err-polynomials-clause-several
extend-returns-in_err-polynomials-clause-several g t c = IfOk-from_err c.from_residual-in_err-polynomials.result _ c.from_residual-in_err-polynomials.ensures.0

pub extend-returns-clause-several : goal.extend-returns-clause-several
extend-returns-clause-several g t c =
    let d = c.args.self.now.decoding in
    let n = length c.in_ok-polynomials.polynomials.items in
    let new = c.extend_by_each.new in
    on_ok_weaker {Q = Grew d 1 c.args.report.now new.report c.args.nodes.now new.nodes} c.extend_by_each.result
    (λ (below : Grew d n c.args.report.now new.report c.list.new.nodes new.nodes).
    grew-one d n c.args.report.now new.report c.args.nodes.now c.list.new.nodes new.nodes below c.in_ok-polynomials.ensures.several
    c.in_ok-polynomials.ensures.rises.1 c.extend_by_each.ensures.counted.counted.nodes)
    c.extend_by_each.ensures.several

-- ---- extend_by_each

pub extend_by_each-loop-polynomial-init : goal.extend_by_each-loop-polynomial-init
extend_by_each-loop-polynomial-init g t c =
    let d = c.args.self.now.decoding in
    let parting = c.args.parting.now in
    record {
      size = refl {a = length c.args.block.now};
      kept = refl {a = take parting.candidate.column c.args.block.now};
      ascending = c.requires.ascending;
      counted = counted-none d parting c.args.block.now (counters c.args.cols.now c.args.nodes.now);
      gained = gained-none d parting (progress c.args.block.now c.args.report.now c.args.cols.now);
      grew = inl (le-add_right (length c.args.report.now) 0);
    }

pub extend_by_each-follow-requires : goal.extend_by_each-follow-requires
extend_by_each-follow-requires g t c =
    let d = c.args.self.now.decoding in
    let parting = c.args.parting.now in
    let kept = parting.candidate.kept.now in
    let vectors = c.deref-polynomial-items.result.now in
    let same = c.deref-polynomial-items.ensures.value in
    let i = c.loop-polynomial.polynomial-index in
    let p = c.deref.result.now in
    let item : get_or (nexts_of parting) i [] ≡ p =
    ap (λ (vs : List (Vec ℕ Global)). get_or (map (λ (v : Vec ℕ Global). v.items) vs) i []) (sym same)
    ∙ item_is vectors i c.polynomial-item.result c.loop-polynomial-test.true c.polynomial-item.is ∙ sym c.deref.ensures.value in
    let inside : i < length (nexts_of parting) =
    subst (λ (vs : List (Vec ℕ Global)). i < length (map (λ (v : Vec ℕ Global). v.items) vs)) same
    (subst (λ (m : ℕ). i < m) (sym (length-map vectors (λ (v : Vec ℕ Global). v.items))) c.loop-polynomial-test.true) in
    let column = parting.candidate.column in
    let short = c.requires.parted.short in
    record {
      some = next-some d parting c.requires.parted i p inside item;
      room = subst (λ (m : ℕ). column < m) (sym (c.loop-polynomial.invariant.size ∙ c.requires.width)) short;
      widths = kept-beyond d kept column c.args.block.now c.requires.candidate column c.args.self.now.columns.filled short;
    }

pub extend_by_each-returns-in_err-fewer-clause-size : goal.extend_by_each-returns-in_err-fewer-clause-size
extend_by_each-returns-in_err-fewer-clause-size g t c = c.in_err-fewer.ensures.size ∙ c.loop-polynomial.invariant.size

pub extend_by_each-returns-in_err-fewer-clause-ascending : goal.extend_by_each-returns-in_err-fewer-clause-ascending
extend_by_each-returns-in_err-fewer-clause-ascending g t c = c.loop-polynomial.invariant.ascending

pub extend_by_each-returns-in_err-fewer-clause-counted : goal.extend_by_each-returns-in_err-fewer-clause-counted
extend_by_each-returns-in_err-fewer-clause-counted g t c = record { count = c.loop-polynomial.polynomial-index; counted = c.loop-polynomial.invariant.counted }

pub extend_by_each-returns-in_err-fewer-clause-extended : goal.extend_by_each-returns-in_err-fewer-clause-extended
extend_by_each-returns-in_err-fewer-clause-extended g t c = IfOk-from_err c.from_residual.result _ c.from_residual.ensures.0

pub extend_by_each-overflow_add-candidate : goal.extend_by_each-overflow_add-candidate
extend_by_each-overflow_add-candidate g t c = let short = c.requires.parted.short in omega (arith, short)

pub extend_by_each-extend-requires : goal.extend_by_each-extend-requires
extend_by_each-extend-requires g t c κs within =
    let d = c.args.self.now.decoding in
    let parting = c.args.parting.now in
    let kept = parting.candidate.kept.now in
    let vectors = c.deref-polynomial-items.result.now in
    let same = c.deref-polynomial-items.ensures.value in
    let i = c.loop-polynomial.polynomial-index in
    let p = c.deref.result.now in
    let item : get_or (nexts_of parting) i [] ≡ p =
    ap (λ (vs : List (Vec ℕ Global)). get_or (map (λ (v : Vec ℕ Global). v.items) vs) i []) (sym same)
    ∙ item_is vectors i c.polynomial-item.result c.loop-polynomial-test.true c.polynomial-item.is ∙ sym c.deref.ensures.value in
    let inside : i < length (nexts_of parting) =
    subst (λ (vs : List (Vec ℕ Global)). i < length (map (λ (v : Vec ℕ Global). v.items) vs)) same
    (subst (λ (m : ℕ). i < m) (sym (length-map vectors (λ (v : Vec ℕ Global). v.items))) c.loop-polynomial-test.true) in
    let kept_part = c.in_ok-fewer.ensures.answers in
    let less = next-fewer d parting c.requires.parted i p inside item c.args.self.now.columns c.in_ok-fewer.fewer kept_part in (
      omega (arith, c.decreases, less),
      (
        within.0,
        (
          within.1.0,
          (
            within.1.1,
            (
              c.in_ok-fewer.ensures.size ∙ c.loop-polynomial.invariant.size ∙ c.requires.width,
              (
                next-fits parting.candidate.column d.width c.requires.parted.short,
                (
                  next-candidate d parting c.requires.parted i p inside item c.args.self.now.columns c.args.block.now c.loop-polynomial.block c.follow.new.block
                      c.loop-polynomial.invariant.kept c.in_ok-fewer.ensures.block c.in_ok-fewer.fewer kept_part c.requires.candidate,
                  c.loop-polynomial.invariant.ascending,
                ),
              ),
            ),
          ),
        ),
      ),
    )

pub extend_by_each-returns-in_err-extend-clause-size : goal.extend_by_each-returns-in_err-extend-clause-size
extend_by_each-returns-in_err-extend-clause-size g t c = c.in_err-extend.ensures.size ∙ c.in_ok-fewer.ensures.size ∙ c.loop-polynomial.invariant.size

pub extend_by_each-returns-in_err-extend-clause-ascending : goal.extend_by_each-returns-in_err-extend-clause-ascending
extend_by_each-returns-in_err-extend-clause-ascending g t c = c.in_err-extend.ensures.ascending

pub extend_by_each-returns-in_err-extend-clause-counted : goal.extend_by_each-returns-in_err-extend-clause-counted
extend_by_each-returns-in_err-extend-clause-counted g t c =
    let d = c.args.self.now.decoding in
    let parting = c.args.parting.now in
    let kept = parting.candidate.kept.now in
    let vectors = c.deref-polynomial-items.result.now in
    let same = c.deref-polynomial-items.ensures.value in
    let i = c.loop-polynomial.polynomial-index in
    let p = c.deref.result.now in
    let item : get_or (nexts_of parting) i [] ≡ p =
    ap (λ (vs : List (Vec ℕ Global)). get_or (map (λ (v : Vec ℕ Global). v.items) vs) i []) (sym same)
    ∙ item_is vectors i c.polynomial-item.result c.loop-polynomial-test.true c.polynomial-item.is ∙ sym c.deref.ensures.value in
    let inside : i < length (nexts_of parting) =
    subst (λ (vs : List (Vec ℕ Global)). i < length (map (λ (v : Vec ℕ Global). v.items) vs)) same
    (subst (λ (m : ℕ). i < m) (sym (length-map vectors (λ (v : Vec ℕ Global). v.items))) c.loop-polynomial-test.true) in
    record {
      count = i + 1;
      counted = counted-more d parting c.requires.parted i p inside item c.args.self.now.columns c.args.block.now c.loop-polynomial.block c.follow.new.block
          c.loop-polynomial.invariant.kept c.in_ok-fewer.ensures.block _ (counters c.args.cols.now c.args.nodes.now)
          (counters c.loop-polynomial.cols c.loop-polynomial.nodes) (counters c.extend.new.cols c.extend.new.nodes)
          c.loop-polynomial.invariant.counted c.in_err-extend.ensures.counted c.in_ok-fewer.ensures.answers refl;
    }

pub extend_by_each-returns-in_err-extend-clause-extended : goal.extend_by_each-returns-in_err-extend-clause-extended
extend_by_each-returns-in_err-extend-clause-extended g t c = IfOk-from_err c.from_residual-in_err-extend.result _ c.from_residual-in_err-extend.ensures.0

pub extend_by_each-loop-polynomial-preserved : goal.extend_by_each-loop-polynomial-preserved
extend_by_each-loop-polynomial-preserved g t c =
    let d = c.args.self.now.decoding in
    let parting = c.args.parting.now in
    let kept = parting.candidate.kept.now in
    let vectors = c.deref-polynomial-items.result.now in
    let same = c.deref-polynomial-items.ensures.value in
    let i = c.loop-polynomial.polynomial-index in
    let p = c.deref.result.now in
    let item : get_or (nexts_of parting) i [] ≡ p =
    ap (λ (vs : List (Vec ℕ Global)). get_or (map (λ (v : Vec ℕ Global). v.items) vs) i []) (sym same)
    ∙ item_is vectors i c.polynomial-item.result c.loop-polynomial-test.true c.polynomial-item.is ∙ sym c.deref.ensures.value in
    let inside : i < length (nexts_of parting) =
    subst (λ (vs : List (Vec ℕ Global)). i < length (map (λ (v : Vec ℕ Global). v.items) vs)) same
    (subst (λ (m : ℕ). i < m) (sym (length-map vectors (λ (v : Vec ℕ Global). v.items))) c.loop-polynomial-test.true) in
    let column = parting.candidate.column in
    let size = c.loop-polynomial.invariant.size in
    let room : column ≤ length c.loop-polynomial.block = le_of_lt (subst (λ (m : ℕ). column < m) (sym (size ∙ c.requires.width)) c.requires.parted.short) in
    let before = c.loop-polynomial in
    let new = c.extend.new in
    let extended = c.in_ok-extend.ensures in
    record {
      size = extended.size ∙ c.in_ok-fewer.ensures.size ∙ size;
      kept = same-more d parting c.requires.parted i p inside item c.args.self.now.columns c.args.block.now before.block c.follow.new.block
          before.invariant.kept c.in_ok-fewer.ensures.block new.block room extended.extended.block;
      ascending = extended.ascending;
      counted = counted-more d parting c.requires.parted i p inside item c.args.self.now.columns c.args.block.now before.block c.follow.new.block
          before.invariant.kept c.in_ok-fewer.ensures.block _ (counters c.args.cols.now c.args.nodes.now)
          (counters before.cols before.nodes) (counters new.cols new.nodes)
          before.invariant.counted extended.counted c.in_ok-fewer.ensures.answers refl;
      gained = gained-more d parting c.requires.parted i p inside item c.args.self.now.columns c.args.block.now before.block c.follow.new.block
          before.invariant.kept c.in_ok-fewer.ensures.block _ before.block new.block c.args.report.now before.report new.report
          c.args.cols.now before.cols new.cols before.invariant.counted.cols extended.counted.cols
          before.invariant.gained extended.extended c.in_ok-fewer.ensures.answers refl;
      grew = grew-more d i c.args.report.now before.report new.report c.args.nodes.now before.nodes new.nodes before.invariant.grew
          extended.several before.invariant.counted.nodes extended.counted.nodes;
    }

pub extend_by_each-returns-clause-size : goal.extend_by_each-returns-clause-size
extend_by_each-returns-clause-size g t c = c.loop-polynomial.invariant.size

pub extend_by_each-returns-clause-ascending : goal.extend_by_each-returns-clause-ascending
extend_by_each-returns-clause-ascending g t c = c.loop-polynomial.invariant.ascending

pub extend_by_each-returns-clause-counted : goal.extend_by_each-returns-clause-counted
extend_by_each-returns-clause-counted g t c = record { count = c.loop-polynomial.polynomial-index; counted = c.loop-polynomial.invariant.counted }

pub extend_by_each-returns-clause-extended : goal.extend_by_each-returns-clause-extended
extend_by_each-returns-clause-extended g t c =
    let d = c.args.self.now.decoding in
    let parting = c.args.parting.now in
    let vectors = c.deref-polynomial-items.result.now in
    let i = c.loop-polynomial.polynomial-index in
    let count : length (nexts_of parting) ≡ length vectors =
    ap (λ (vs : List (Vec ℕ Global)). length (map (λ (v : Vec ℕ Global). v.items) vs)) (sym c.deref-polynomial-items.ensures.value) ∙ length-map vectors (λ (v : Vec ℕ Global). v.items) in
    let whole : take i (nexts_of parting) ≡ nexts_of parting = take_all i (nexts_of parting) (omega (arith, count, c.loop-polynomial-test.false)) in
    record {
      block = c.loop-polynomial.invariant.kept;
      gained = subst (λ (nexts : List (List ℕ)). TurnsGained nexts d parting (progress c.args.block.now c.args.report.now c.args.cols.now)
          (progress c.loop-polynomial.block c.loop-polynomial.report c.loop-polynomial.cols)) whole c.loop-polynomial.invariant.gained;
    }

pub extend_by_each-returns-in_err-fewer-clause-several : goal.extend_by_each-returns-in_err-fewer-clause-several
extend_by_each-returns-in_err-fewer-clause-several g t c = IfOk-from_err c.from_residual.result _ c.from_residual.ensures.0

pub extend_by_each-returns-in_err-extend-clause-several : goal.extend_by_each-returns-in_err-extend-clause-several
extend_by_each-returns-in_err-extend-clause-several g t c = IfOk-from_err c.from_residual-in_err-extend.result _ c.from_residual-in_err-extend.ensures.0

pub extend_by_each-returns-clause-several : goal.extend_by_each-returns-clause-several
extend_by_each-returns-clause-several g t c =
    let end = c.loop-polynomial in
    let size = ap length c.deref-polynomial-items.ensures.value in
    let whole : end.polynomial-index ≡ length c.args.parting.now.polynomials.items = omega (arith, size, c.loop-polynomial-test.false) in
    subst (λ (n : ℕ). Grew c.args.self.now.decoding n c.args.report.now end.report c.args.nodes.now end.nodes) whole end.invariant.grew

pub extend_by_each-bounds-polynomial-items-polynomial-index : goal.extend_by_each-bounds-polynomial-items-polynomial-index
extend_by_each-bounds-polynomial-items-polynomial-index g t c = c.loop-polynomial-test.true

pub extend_by_each-loop-polynomial-smaller : goal.extend_by_each-loop-polynomial-smaller
extend_by_each-loop-polynomial-smaller g t c = fewer-left c.loop-polynomial.polynomial-index (length c.deref-polynomial-items.result.now) c.loop-polynomial-test.true
