-- A run of columns in each of which all points of a candidate lie on one polynomial.
use Rattle.std.proofs.Common.{◌≡◌, ◌≢◌, ◌↔◌, ℕ, zero, suc, ◌+◌, ◌<◌, ◌≤◌, true, List, [], ◌∷◌, ◌++◌, length, get_or, take, drop, All, refl, sym, ap, ap₂, subst, ◌∙◌, arith, append_assoc, append-nil, eq-eqb}
use Rattle.std.proofs.Math.Seq.{take-add}
use Rattle.std.proofs.lemmas.List.{length-append, map-append, take_more, get_or-map, length-map}
use Rattle.std.proofs.lemmas.List.Elements.{All-nil, All-cons, All-append}
use Rattle.std.proofs.lemmas.List.Kept.{AllPairs-cons}
use Rattle.std.proofs.lemmas.List.Sums.{length-filter}
use Rattle.gf256.specs.Polynomial.{coef, val, IsPolynomial}
use Rattle.wire_frames.specs.Answer.{Answer}
use Rattle.column_runs.specs.Run.{IsConstant}
use Rattle.column_lists.proofs.OnOne.{lists_one}
use Rattle.block_decoder.specs.Agreed.{constants_of, holds_first, weight, HasColumns}
use Rattle.block_decoder.specs.Narrowing.{agreement_on, holding, holds_at, points_of, IsPart, IsCandidate, ListsIn, ContinuesFrom, IsVisited, AreVisited}
use Rattle.block_decoder.specs.Report.{Agreement}
use Rattle.block_decoder.specs.declared.decoding.Decoding.{Decoding}
use Rattle.block_decoder.proofs.Holding.{holding-same}
use Rattle.block_decoder.proofs.Kept.{part-All, part-different, length-points, points-All, points-different}
use Rattle.block_decoder.proofs.Continued.{continues-one}
use Rattle.block_decoder.proofs.Pairs.{AllPairs-nil}

-- the polynomials of n columns after v, on which all of v's points lie: they lead to the same agreements, and each column was
-- visited
pub record HasRun (d : Decoding) (v : List (List ℕ)) (n : ℕ) (bytes : List ℕ) : Type 0 where
  pub more : List (List ℕ)
  pub size : length more ≡ n
  pub degree : All (IsPolynomial d.degree) more
  pub held : holding (v ++ more) d.answers ≡ holding v d.answers
  pub constants : take n bytes ≡ constants_of more
  pub same : (b : Agreement) → ContinuesFrom (agreement_on d.answers) d (v ++ more) b
      ↔ ContinuesFrom (agreement_on d.answers) d v b
  pub visited : List (List (List ℕ))
  pub count : length visited ≡ n
  pub are : AreVisited d v visited
  pub before : All (λ w. length w < length v + n) visited

-- a vector that begins with v, holds at h answers and leaves a column is visited
pub visits : (d : Decoding) (v more : List (List ℕ)) → All (IsPolynomial d.degree) v
    → All (IsPolynomial d.degree) more → length v + length more < d.width → d.agreement ≤ weight (v ++ more) d.answers
    → IsVisited d v (v ++ more)
visits d v more first then short enough = record {
  more = more;
  begins = refl;
  short = let n = length-append v more in omega (arith, n, short);
  heavy = record { one_a_column = refl; degree = All-append (IsPolynomial d.degree) v more first then; enough = enough };
}

module _ (d : Decoding) (columns : HasColumns d.width d.answers) (more_than : d.degree < d.agreement) (v : List (List ℕ))
    (degree : All (IsPolynomial d.degree) v) (enough : d.agreement ≤ length (holding v d.answers)) where
  -- a run of no column
  run-none : (bytes : List ℕ) → HasRun d v 0 bytes
  run-none bytes =
      let e = append-nil v in
      record {
        more = [];
        size = refl;
        degree = All-nil (IsPolynomial d.degree);
        held = ap (λ w. holding w d.answers) e;
        constants = refl;
        same = λ b. (subst (λ w. ContinuesFrom (agreement_on d.answers) d w b) e, subst (λ w. ContinuesFrom (agreement_on d.answers) d w b) (sym e));
        visited = [];
        count = refl;
        are = record { different = AllPairs-nil (λ v w. v ≢ w); each = All-nil (IsVisited d v) };
        before = All-nil (λ w. length w < length v + 0);
      }

  -- where all points lie on it, a polynomial of small degree alone agrees with h of them
  on_one : (w : List (List ℕ)) (column : ℕ) (p : List ℕ) → holding w d.answers ≡ holding v d.answers → IsPolynomial d.degree p
      → All (λ q. val p q.0 ≡ q.1) (points_of (holding w d.answers) column)
      → ListsIn d (points_of (holding w d.answers) column) (p ∷ [])
  on_one w column p held is on =
      let part : IsPart d.answers (holding w d.answers) = record { test = holds_first w; is = refl } in
      let size = length-points (holding w d.answers) column in
      let same = ap length held in
      lists_one p (points_of (holding w d.answers) column) d.degree d.agreement more_than (omega (arith, size, same, enough)) is on
      (points-different (holding w d.answers) column (part-different d.answers (holding w d.answers) part columns.different))
      (points-All (holding w d.answers) column (λ x. x < 256) (part-All d.answers (holding w d.answers) part (λ a. a.index < 256) columns.indices))

  -- and of one column more, in which all points lie on a polynomial
  run-more : (n : ℕ) (bytes : List ℕ) → HasRun d v n bytes → n < length bytes → length v + n < d.width
      → IsConstant (points_of (holding v d.answers) (length v + n)) d.degree (get_or bytes n 0) → HasRun d v (n + 1) bytes
  run-more n bytes r within short constant =
      let w = v ++ r.more in
      let p = constant.polynomial in
      let long : length w ≡ length v + n = length-append v r.more ∙ ap (λ m. length v + m) r.size in
      let on : All (λ q. val p q.0 ≡ q.1) (points_of (holding w d.answers) (length w)) =
      subst (λ (c : ℕ). All (λ q. val p q.0 ≡ q.1) (points_of (holding w d.answers) c)) (sym long)
      (subst (λ (l : List Answer). All (λ q. val p q.0 ≡ q.1) (points_of l (length v + n))) (sym r.held) constant.through) in
      let room : length w < d.width = omega (arith, long, short) in
      let lists = on_one w (length w) p r.held constant.degree on in
      let e : w ++ p ∷ [] ≡ v ++ (r.more ++ p ∷ []) = append_assoc v r.more (p ∷ []) in
      let point : Answer → ℕ × ℕ = λ a. (a.index, get_or a.payload (length w) 0) in
      let size = length-map (holding w d.answers) point in
      let all : All (λ a. holds_at p (length w) a ≡ true) (holding w d.answers) =
      λ i z l. eq-eqb _ _ (subst (λ (q : ℕ × ℕ). val p q.0 ≡ q.1) (get_or-map point (holding w d.answers) i z (0, 0) l) (on i (0, 0) (omega (arith, size, l)))) in
      let one = continues-one (agreement_on d.answers) d w columns.filled room p lists in
      let count = r.count in
      let heavy = sym (length-filter (holds_first w) d.answers) ∙ ap length r.held in
      record {
        more = r.more ++ p ∷ [];
        size = length-append r.more (p ∷ []) ∙ ap (λ m. m + 1) r.size;
        degree = All-append (IsPolynomial d.degree) r.more (p ∷ []) r.degree (All-cons (IsPolynomial d.degree) p [] constant.degree (All-nil (IsPolynomial d.degree)));
        held = ap (λ u. holding u d.answers) (sym e) ∙ holding-same d.answers d.width (length w) w p columns.filled refl room all ∙ r.held;
        constants = take_more bytes n 0 within ∙ ap₂ (λ (bs : List ℕ) (b : ℕ). bs ++ b ∷ []) r.constants (sym constant.constant) ∙ sym (map-append (λ p. coef p 0) r.more (p ∷ []));
        same = λ b. subst (λ u. ContinuesFrom (agreement_on d.answers) d u b
            ↔ ContinuesFrom (agreement_on d.answers) d v b) e
            (λ c. (r.same b).0 ((one b).0 c), λ c. (one b).1 ((r.same b).1 c));
        visited = w ∷ r.visited;
        count = omega (arith, count);
        are = record {
          different = AllPairs-cons (λ v w. v ≢ w) w r.visited
              (λ k z l same. let shorter = r.before k z l in let equal = ap length same in omega (arith, shorter, equal, long))
              r.are.different;
          each = All-cons (IsVisited d v) w r.visited
              (visits d v r.more degree r.degree (let s = r.size in omega (arith, short, s)) (omega (arith, heavy, enough)))
              r.are.each;
        };
        before = All-cons (λ u. length u < length v + (n + 1)) w r.visited (omega (arith, long))
            (λ k z l. let shorter = r.before k z l in omega (arith, shorter));
      }

  -- a run has its polynomials
  pub has_run : (n : ℕ) (bytes : List ℕ) → n ≤ length bytes → length v + n ≤ d.width
      → ((c : ℕ) → c < n → IsConstant (points_of (holding v d.answers) (length v + c)) d.degree (get_or bytes c 0)) → HasRun d v n bytes
  has_run zero bytes within short each = run-none bytes
  has_run (suc n) bytes within short each =
      let e : n + 1 ≡ suc n = omega arith in
      subst (λ m. HasRun d v m bytes) e
      (run-more n bytes (has_run n bytes (omega (arith, within)) (omega (arith, short)) (λ c l. each c (omega (arith, l)))) (omega (arith, within)) (omega (arith, short)) (each n (omega arith)))

-- after a run the candidate has its columns too
abbrev pub run-candidate : (d : Decoding) (kept : List Answer) (column n : ℕ) (old new : List ℕ) (part : List Answer) (next : ℕ)
    → part ≡ kept → next ≡ column + n → (c : IsCandidate d kept column old) → take column new ≡ take column old
    → HasRun d c.polynomials n (drop column new) → IsCandidate d part next new
run-candidate d kept column n old new part next part_is next_is c same r = record {
  polynomials = c.polynomials ++ r.more;
  one_a_column = length-append c.polynomials r.more ∙ ap₂ (λ a b. a + b) c.one_a_column r.size ∙ sym next_is;
  degree = All-append (IsPolynomial d.degree) c.polynomials r.more c.degree r.degree;
  held = part_is ∙ c.held ∙ sym r.held;
  enough = subst (λ (l : List Answer). d.agreement ≤ length l) (sym part_is) c.enough;
  constants = ap (λ (m : ℕ). take m new) next_is ∙ take-add column n new
      ∙ ap₂ (λ (a b : List ℕ). a ++ b) (same ∙ c.constants) r.constants
      ∙ sym (map-append (λ p. coef p 0) c.polynomials r.more);
}
