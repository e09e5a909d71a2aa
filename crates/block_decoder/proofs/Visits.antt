-- The vectors that the decoder visits, put together from those below each next polynomial.
use Rattle.std.proofs.Common.{◌≡◌, ◌≢◌, ◌⊎◌, ℕ, ◌+◌, ◌-◌, ◌*◌, ◌/◌, ◌<◌, ◌≤◌, inl, inr, List, [], ◌∷◌, ◌++◌, length, All, Contains, refl, sym, ap, subst, ◌∙◌, arith, append_assoc}
use Rattle.std.proofs.Math.Nat.{le-min}
use Rattle.std.proofs.lemmas.Nat.{le-div}
use Rattle.std.proofs.lemmas.List.{length-append}
use Rattle.std.proofs.lemmas.List.Elements.{All-nil, All-cons, All-append, All-weaker, Contains-append_left, Contains-append_right}
use Rattle.std.proofs.lemmas.List.Kept.{AllPairs-cons}
use Rattle.gf256.specs.Polynomial.{IsPolynomial}
use Rattle.column_runs.specs.Close.{least_misses}
use Rattle.block_decoder.specs.Agreed.{weight, HasColumns}
use Rattle.block_decoder.specs.Decoding.{most_columns_of, most_nodes_of, Counters}
use Rattle.block_decoder.specs.Numbers.{bound_of, most_columns, most_lists, most_nodes}
use Rattle.block_decoder.specs.Narrowing.{list_nodes, IsVisited, IsVisitedBy, AreVisited, CountsFrom, CountsBy}
use Rattle.block_decoder.specs.declared.decoding.Decoding.{Decoding}
use Rattle.block_decoder.proofs.HeavyByLength.{few_by_length}
use Rattle.block_decoder.proofs.FewLists.{few_nodes}
use Rattle.block_decoder.proofs.Lists.{MissMany, nodes-nothing, nodes-none, nodes-after, nodes-more, nodes-below, nodes-whole}
use Rattle.block_decoder.proofs.Products.{products_both, product_some, products_up, products_lesser}
use Rattle.block_decoder.proofs.Pairs.{AllPairs-nil, AllPairs-append}
use Rattle.block_decoder.proofs.Runs.{HasRun, visits}
use Rattle.block_decoder.proofs.Vectors.{differ_by_beginning, differ_by_last}

module _ (d : Decoding) (most : ℕ) (v : List (List ℕ)) where
  -- nothing is visited yet
  pub counts-nothing : (a b : Counters) → b.cols ≤ a.cols → b.nodes ≤ a.nodes → CountsFrom d most v a b
  counts-nothing a b cols nodes = record {
    visited = [];
    are = record { different = AllPairs-nil (λ v w. v ≢ w); each = All-nil (IsVisited d v) };
    cols = omega (arith, cols);
    lists = omega (arith, nodes);
    nodes = nodes-nothing d most v a.nodes b.nodes nodes;
  }

  -- nor below no polynomial
  pub counts-none : (a : Counters) → CountsBy [] d most v a a
  counts-none a = record {
    visited = [];
    different = AllPairs-nil (λ v w. v ≢ w);
    each = All-nil (IsVisitedBy [] d v);
    cols = omega arith;
    lists = omega arith;
    nodes = nodes-none d most v a.nodes;
  }

  -- those below one more polynomial, with fewer answers
  pub counts-more : (nexts : List (List ℕ)) (p : List ℕ) (a b c : Counters) → HasColumns d.width d.answers
      → All (IsPolynomial d.degree) v → IsPolynomial d.degree p → ¬ Contains nexts p → CountsBy nexts d most v a b
      → CountsFrom d most (v ++ p ∷ []) b c → CountsBy (nexts ++ p ∷ []) d most v a c
  counts-more nexts p a b c columns degree next_degree new before below =
      let size = length-append before.visited below.visited in
      let first = before.cols in
      let second = below.cols in
      record {
        visited = before.visited ++ below.visited;
        different = AllPairs-append (λ v w. v ≢ w) before.visited below.visited before.different below.are.different (λ i z k j e l. apart (before.each i z k) (below.are.each j e l));
        each = All-append (IsVisitedBy (nexts ++ p ∷ []) d v) before.visited below.visited
            (All-weaker (IsVisitedBy nexts d v) (IsVisitedBy (nexts ++ p ∷ []) d v)
            (λ u is. record { next = is.next; listed = Contains-append_left nexts (p ∷ []) is.next is.listed; visited = is.visited })
            before.visited before.each)
            (All-weaker (IsVisited d (v ++ p ∷ [])) (IsVisitedBy (nexts ++ p ∷ []) d v)
            (λ u is. record { next = p; listed = Contains-append_right nexts (p ∷ []) p (0, omega arith, refl); visited = is })
            below.visited below.are.each);
        cols = omega (arith, size, first, second);
        lists = products_both (length before.visited) (length below.visited) (length (before.visited ++ below.visited)) most a.nodes b.nodes c.nodes (omega (arith, size)) before.lists below.lists;
        nodes = nodes-more d most columns v degree nexts p a.nodes b.nodes c.nodes next_degree new before.nodes below.nodes;
      }
    where
      apart : {u w : List (List ℕ)} → IsVisitedBy nexts d v u
          → IsVisited d (v ++ p ∷ []) w → u ≢ w
      apart {u} {w} is other equal =
          differ_by_beginning (v ++ is.next ∷ []) (v ++ p ∷ []) is.visited.more other.more
          (length-append v (is.next ∷ []) ∙ sym (length-append v (p ∷ [])))
          (differ_by_last v is.next p (λ same. new (subst (Contains nexts) same is.listed)))
          (sym is.visited.begins ∙ equal ∙ other.begins)

-- a run alone
pub counts-run : (d : Decoding) (most : ℕ) (v : List (List ℕ)) (n : ℕ) (bytes : List ℕ) (a b : Counters)
    → HasRun d v n bytes → b.cols ≤ a.cols + n → b.nodes ≤ a.nodes → CountsFrom d most v a b
counts-run d most v n bytes a b r e same =
    let count = r.count in
    record {
      visited = r.visited;
      are = r.are;
      cols = omega (arith, e, count);
      lists = omega (arith, same);
      nodes = nodes-nothing d most v a.nodes b.nodes same;
    }

-- a run, the column after it, and what is below each polynomial of that column
pub counts-whole : (d : Decoding) (most : ℕ) (v : List (List ℕ)) (n : ℕ) (bytes : List ℕ) (nexts : List (List ℕ))
    (a b c : Counters) → (r : HasRun d v n bytes) → All (IsPolynomial d.degree) v → length v + n < d.width
    → d.agreement ≤ weight (v ++ r.more) d.answers → b.cols ≤ a.cols + n + 1 → b.nodes ≤ a.nodes + most
    → ((b.nodes ≤ a.nodes) ⊎ MissMany d (v ++ r.more)) → CountsBy nexts d most (v ++ r.more) b c
    → CountsFrom d most v a c
counts-whole d most v n bytes nexts a b c r degree short enough cols nodes far below =
    let w = v ++ r.more in
    let long : length w ≡ length v + n = length-append v r.more ∙ ap (λ m. length v + m) r.size in
    let count = r.count in
    let size = length-append (w ∷ r.visited) below.visited in
    let more_cols = below.cols in
    let first : All (λ u. length u < length v + n + 1) (w ∷ r.visited) =
    All-cons (λ u. length u < length v + n + 1) w r.visited (omega (arith, long)) (λ k z l. let shorter = r.before k z l in omega (arith, shorter)) in
    record {
      visited = (w ∷ r.visited) ++ below.visited;
      are = record {
        different = AllPairs-append (λ v w. v ≢ w) (w ∷ r.visited) below.visited
            (AllPairs-cons (λ v w. v ≢ w) w r.visited (λ k z l same. let shorter = r.before k z l in let equal = ap length same in omega (arith, shorter, equal, long)) r.are.different)
            below.different
            (λ i z k j e l same.
            let is = below.each j e l in
            let shorter = first i z k in
            let equal = ap length same in
            let one = ap length is.visited.begins in
            let two = length-append (w ++ is.next ∷ []) is.visited.more in
            let three = length-append w (is.next ∷ []) in
            omega (arith, shorter, equal, one, two, three, long));
        each = All-append (IsVisited d v) (w ∷ r.visited) below.visited
            (All-cons (IsVisited d v) w r.visited (visits d v r.more degree r.degree (let s = r.size in omega (arith, short, s)) enough) r.are.each)
            (λ j e l.
            let is = below.each j e l in record {
              more = r.more ++ (is.next ∷ is.visited.more);
              begins = is.visited.begins ∙ append_assoc w (is.next ∷ []) is.visited.more ∙ append_assoc v r.more (is.next ∷ is.visited.more);
              short = is.visited.short;
              heavy = is.visited.heavy;
            });
      };
      cols = omega (arith, more_cols, cols, size, count);
      lists = products_both (length (w ∷ r.visited)) (length below.visited) (length ((w ∷ r.visited) ++ below.visited)) most a.nodes b.nodes c.nodes (omega (arith, size))
          (product_some (length r.visited) most a.nodes b.nodes nodes) below.lists;
      nodes = nodes-after d most v r.more a.nodes c.nodes (elim far [
        | inl none ↦ nodes-below d most w nexts a.nodes b.nodes c.nodes none below.nodes
        | inr many ↦ nodes-whole d most w nexts a.nodes b.nodes c.nodes many nodes below.nodes
      ]);
    }

-- ---- how many there are in all

-- from the empty vector: one for the first column, and Johnson's bound for each further one
few_visits : (d : Decoding) → HasColumns d.width d.answers → d.degree < d.agreement → length d.answers * d.degree < d.agreement * d.agreement
    → (vs : List (List (List ℕ))) → AreVisited d [] vs
    → length vs ≤ 1 + (d.width - 1) * bound_of (length d.answers) d.degree d.agreement
few_visits d columns less strong vs are =
    few_by_length d.answers columns.indices columns.different d.degree d.agreement less strong d.width vs are.different
    (λ i z l. (are.each i z l).heavy) (λ i z l. (are.each i z l).short)

-- where no polynomial is close, each misses an answer or more
pub misses-some : (t h : ℕ) → t < h → 0 < least_misses t h
unfolding least_misses
misses-some t h less = le-min {k = 1} {a = h - t} {b = h / (t + 1)} (omega (arith, less)) (le-div 1 h (t + 1) (omega arith) (omega (arith, less)))

-- so many columns and nodes are counted
pub counts-few : (d : Decoding) (a b : Counters) → HasColumns d.width d.answers → d.degree < d.agreement → length d.answers * d.degree < d.agreement * d.agreement
    → CountsFrom d (list_nodes d) [] a b
    → (b.cols ≤ a.cols + most_columns_of d) × (b.nodes ≤ a.nodes + most_nodes_of d)
unfolding most_columns most_nodes
counts-few d a b columns less strong counts =
    let few = few_visits d columns less strong counts.visited counts.are in
    let cols = counts.cols in
    let most = list_nodes d in (
      omega (arith, few, cols),
      products_lesser (most_columns_of d) (most_lists (length d.answers) d.degree d.agreement) most a.nodes b.nodes
          (products_up (length counts.visited) (most_columns_of d) most a.nodes b.nodes few counts.lists)
          (few_nodes d most a.nodes b.nodes less strong (misses-some d.degree d.agreement less) counts.nodes),
    )
