-- How often a list is made: each time all ways to go on lose answers, and the ways part for good.
use Rattle.std.proofs.Common.{◌≡◌, ◌≢◌, ℕ, ◌+◌, ◌≤◌, ◌&&◌, List, [], ◌∷◌, ◌++◌, length, All, Contains, refl, sym, ap, ap₂, subst, inl, inr, arith, append_assoc, append-nil}
use Rattle.std.proofs.lemmas.Bool.{and_parts}
use Rattle.std.proofs.lemmas.List.{length-append}
use Rattle.std.proofs.lemmas.List.Elements.{All-nil, All-cons, All-append, All-weaker, Contains-append_left, Contains-append_right}
use Rattle.std.proofs.lemmas.List.Kept.{AllPairs-cons}
use Rattle.std.proofs.lemmas.List.Sums.{sum_by-le-sum_by}
use Rattle.gf256.specs.Polynomial.{IsPolynomial}
use Rattle.wire_frames.specs.Answer.{Answer}
use Rattle.block_decoder.specs.Agreed.{holds_first, weight, HasColumns}
use Rattle.block_decoder.specs.Lists.{misses_of, shared, TakesList, LosesOrParts, NodesFrom, TakesListBy, NodesBy}
use Rattle.block_decoder.specs.declared.decoding.Decoding.{Decoding}
use Rattle.block_decoder.proofs.Counting.{one_if}
use Rattle.block_decoder.proofs.HeavyVectors.{few_shared}
use Rattle.block_decoder.proofs.Pairs.{AllPairs-nil, AllPairs-append}
use Rattle.block_decoder.proofs.Products.{products_both, product_more}
use Rattle.block_decoder.proofs.Vectors.{differ_by_last}
use Rattle.block_decoder.proofs.Weight.{one_if-le, holds_first-append, weight-append}

-- longer vectors hold together at no more answers
shared-append : (answers : List Answer) (v w ps qs : List (List ℕ))
    → shared answers (v ++ ps) (w ++ qs) ≤ shared answers v w
shared-append answers v w ps qs =
    sum_by-le-sum_by (λ a. one_if (holds_first (v ++ ps) a && holds_first (w ++ qs) a))
    (λ a. one_if (holds_first v a && holds_first w a)) answers
    (λ a. one_if-le (holds_first (v ++ ps) a && holds_first (w ++ qs) a) (holds_first v a && holds_first w a)
    (λ both. let parts = and_parts (holds_first (v ++ ps) a) (holds_first (w ++ qs) a) both in
    ap₂ ◌&&◌ (holds_first-append v ps a parts.0) (holds_first-append w qs a parts.1)))

-- v holds at answers enough for a list of the next column, and each polynomial of that misses many of them
pub record MissMany (d : Decoding) (v : List (List ℕ)) : Type 0 where
  pub enough : d.agreement + misses_of d ≤ weight v d.answers
  pub fewer : (p : List ℕ) → IsPolynomial d.degree p → weight (v ++ p ∷ []) d.answers + misses_of d ≤ weight v d.answers

-- ---- what is below each next polynomial, and below all of them

module _ (d : Decoding) (most : ℕ) (v : List (List ℕ)) where
  -- no list
  pub nodes-nothing : (n0 n1 : ℕ) → n1 ≤ n0 → NodesFrom d most v n0 n1
  nodes-nothing n0 n1 same = record {
    vectors = [];
    take = record { each = All-nil (TakesList d v); apart = AllPairs-nil (LosesOrParts d) };
    nodes = omega (arith, same);
  }

  -- nor below no polynomial
  pub nodes-none : (n : ℕ) → NodesBy [] d most v n n
  nodes-none n = record {
    vectors = [];
    each = All-nil (TakesListBy [] d v);
    apart = AllPairs-nil (LosesOrParts d);
    nodes = omega arith;
  }

  -- columns in which no list is made
  pub nodes-after : (more : List (List ℕ)) (n0 n1 : ℕ) → NodesFrom d most (v ++ more) n0 n1
      → NodesFrom d most v n0 n1
  nodes-after more n0 n1 below = record {
    vectors = below.vectors;
    take = record {
      each = All-weaker (TakesList d (v ++ more)) (TakesList d v) (λ u is. record {
        more = more ++ is.more;
        begins = subst (λ w. u ≡ w) (append_assoc v more is.more) is.begins;
        enough = is.enough;
      }) below.vectors below.take.each;
      apart = below.take.apart;
    };
    nodes = below.nodes;
  }

  -- whichever polynomial is next
  each-below : (nexts : List (List ℕ)) (vectors : List (List (List ℕ))) → All (TakesListBy nexts d v) vectors
      → All (TakesList d v) vectors
  each-below nexts vectors each =
      All-weaker (TakesListBy nexts d v) (TakesList d v) (λ u is. record {
        more = is.next ∷ is.takes.more;
        begins = subst (λ w. u ≡ w) (append_assoc v (is.next ∷ []) is.takes.more) is.takes.begins;
        enough = is.takes.enough;
      }) vectors each

  -- a column in which no list is made, and what is below its polynomials
  pub nodes-below : (nexts : List (List ℕ)) (n0 n1 n2 : ℕ) → n1 ≤ n0 → NodesBy nexts d most v n1 n2
      → NodesFrom d most v n0 n2
  nodes-below nexts n0 n1 n2 same below = record {
    vectors = below.vectors;
    take = record { each = each-below nexts below.vectors below.each; apart = below.apart };
    nodes = let l = below.nodes in omega (arith, same, l);
  }

  -- a column in which one is made, and what is below its polynomials
  pub nodes-whole : (nexts : List (List ℕ)) (n0 n1 n2 : ℕ) → MissMany d v → n1 ≤ n0 + most
      → NodesBy nexts d most v n1 n2 → NodesFrom d most v n0 n2
  nodes-whole nexts n0 n1 n2 many here below = record {
    vectors = v ∷ below.vectors;
    take = record {
      each = All-cons (TakesList d v) v below.vectors
          (record { more = []; begins = sym (append-nil v); enough = many.enough })
          (each-below nexts below.vectors below.each);
      apart = AllPairs-cons (LosesOrParts d) v below.vectors
          (λ i z l. inl (lost (below.each i z l))) below.apart;
    };
    nodes = product_more (length below.vectors) most n0 n1 n2 here below.nodes;
  }
    where
      lost : {u : List (List ℕ)} → TakesListBy nexts d v u
          → weight u d.answers + misses_of d ≤ weight v d.answers
      lost {u} is =
          let less = many.fewer is.next is.degree in
          let more = weight-append (v ++ is.next ∷ []) is.takes.more d.answers in
          let same = ap (λ w. weight w d.answers) is.takes.begins in
          omega (arith, less, more, same)

module _ (d : Decoding) (most : ℕ) (columns : HasColumns d.width d.answers) (v : List (List ℕ))
    (first : All (IsPolynomial d.degree) v) where
  -- vectors that part at v hold together at t answers at most
  few_after : (p q : List ℕ) (ps qs : List (List ℕ)) → IsPolynomial d.degree p → IsPolynomial d.degree q → p ≢ q
      → shared d.answers ((v ++ p ∷ []) ++ ps) ((v ++ q ∷ []) ++ qs) ≤ d.degree
  few_after p q ps qs of_p of_q differ =
      let more = shared-append d.answers (v ++ p ∷ []) (v ++ q ∷ []) ps qs in
      let few = few_shared d.answers columns.indices columns.different (length v + 1) d.degree (v ++ p ∷ []) (v ++ q ∷ [])
      (length-append v (p ∷ [])) (length-append v (q ∷ []))
      (All-append (IsPolynomial d.degree) v (p ∷ []) first (All-cons (IsPolynomial d.degree) p [] of_p (All-nil (IsPolynomial d.degree))))
      (All-append (IsPolynomial d.degree) v (q ∷ []) first (All-cons (IsPolynomial d.degree) q [] of_q (All-nil (IsPolynomial d.degree))))
      (differ_by_last v p q differ) in
      omega (arith, more, few)

  -- one more polynomial
  pub nodes-more : (nexts : List (List ℕ)) (p : List ℕ) (n0 n1 n2 : ℕ) → IsPolynomial d.degree p → ¬ Contains nexts p
      → NodesBy nexts d most v n0 n1 → NodesFrom d most (v ++ p ∷ []) n1 n2
      → NodesBy (nexts ++ p ∷ []) d most v n0 n2
  nodes-more nexts p n0 n1 n2 degree new before below = record {
    vectors = before.vectors ++ below.vectors;
    each = All-append (TakesListBy (nexts ++ p ∷ []) d v) before.vectors below.vectors
        (All-weaker (TakesListBy nexts d v) (TakesListBy (nexts ++ p ∷ []) d v) (λ u is. record {
          next = is.next;
          listed = Contains-append_left nexts (p ∷ []) is.next is.listed;
          degree = is.degree;
          takes = is.takes;
        }) before.vectors before.each)
        (All-weaker (TakesList d (v ++ p ∷ [])) (TakesListBy (nexts ++ p ∷ []) d v) (λ u is. record {
          next = p;
          listed = Contains-append_right nexts (p ∷ []) p (0, omega arith, refl);
          degree = degree;
          takes = is;
        }) below.vectors below.take.each);
    apart = AllPairs-append (LosesOrParts d) before.vectors below.vectors before.apart below.take.apart
        (λ i z k j e l. inr (across (before.each i z k) (below.take.each j e l)));
    nodes = products_both (length before.vectors) (length below.vectors) (length (before.vectors ++ below.vectors)) most n0 n1
        n2 (length-append before.vectors below.vectors) before.nodes below.nodes;
  }
    where
      across : {u w : List (List ℕ)} → TakesListBy nexts d v u → TakesList d (v ++ p ∷ []) w
          → shared d.answers u w ≤ d.degree
      across {u} {w} is other =
          subst (λ x. shared d.answers x w ≤ d.degree) (sym is.takes.begins)
          (subst (λ y. shared d.answers ((v ++ is.next ∷ []) ++ is.takes.more) y ≤ d.degree) (sym other.begins)
          (few_after is.next p is.takes.more other.more is.degree degree
          (λ same. new (subst (Contains nexts) same is.listed))))
