-- What a link took in the fetches of a look-up.
use Rattle.std.proofs.Common.{◌≡◌, ◌∙◌, ◌⊎◌, inl, inr, ℕ, ◌+◌, List, [], ◌∷◌, ◌++◌, length, take, slice_index_or, Option, Some, None, refl, sym, ap, subst, append_assoc, arith}
use Rattle.std.specs.List.{concat}
use Rattle.std.specs.Option.{option_map}
use Rattle.std.proofs.lemmas.List.{append-nil, length-take-le, take_all}
use Rattle.port_trait.specs.World.{Cell, World}
use Rattle.port_trait.specs.Number.{link}
use Rattle.port_trait.specs.Moves.{Rose, RoseOnce}
use Rattle.port_trait.proofs.Ranges.{each_as}
use Rattle.port_trait.proofs.Rises.{once_rose}
use Rattle.wire_frames.specs.Sizes.{answer_len}
use Rattle.query_rounds.specs.declared.plan.FetchPlan.{FetchPlan}
use Rattle.query_rounds.specs.Link.{LinkAsked}
use Rattle.key_fetches.specs.Rounds.{AskEach, AskedInTurn, Round, frame_in}
use Rattle.key_fetches.specs.Sent.{TakeFrames, TakesFrames, frames_to}

-- a count that rose, and rose again or stayed
rose_again : (a b c : ℕ) → Rose a b → (c ≡ b) ⊎ Rose b c → Rose a c
rose_again a b c first (inl same) = subst (λ (k : ℕ). Rose a k) (sym same) first
rose_again a b c first (inr next) = omega (arith, first, next)

-- the count of a link that was asked stayed, or rose by one
link_counts : (address frame : List ℕ) (most : ℕ) (answer : Option (List ℕ)) (old new : Cell)
    → LinkAsked address frame most answer old new → (new.faults ≡ old.faults) ⊎ RoseOnce old.faults new.faults
link_counts address frame most None old new asked = inr asked.rose
link_counts address frame most (Some bytes) old new asked = inl (ap (λ (c : Cell). c.faults) asked.cell)

-- that of a link that was asked in turn stayed or rose
counts : (p : FetchPlan) (address : List ℕ) (i : ℕ) (rounds : List Round) (old new : Cell)
    → AskedInTurn p address i rounds old new → (new.faults ≡ old.faults) ⊎ Rose old.faults new.faults
counts p address i [] old new asked = inl (ap (λ (c : Cell). c.faults) asked)
counts p address i (round ∷ rounds) old new asked =
    let first = link_counts address (frame_in p (i + 1) round) (answer_len 1 p.s)
    (slice_index_or round.session.records i None) old asked.0 asked.1.0 in
    let rest = counts p address i rounds asked.0 new asked.1.1 in
    elim first [
      | inl same ↦ elim rest [
        | inl still ↦ inl (still ∙ same)
        | inr rose ↦ inr (subst (λ (k : ℕ). Rose k new.faults) same rose)
      ]
      | inr once ↦ inr (rose_again old.faults asked.0.faults new.faults (once_rose _ _ once) rest)
    ]

-- nothing more was taken
taken_none : (o : Option (List ℕ)) → o ≡ option_map (λ taken. taken ++ []) o
taken_none None = refl
taken_none (Some taken) = ap (λ (l : List ℕ). Some l) (sym (append-nil taken))

-- one piece was taken and then another
taken_both : (a b : List ℕ) (o : Option (List ℕ))
    → option_map (λ taken. taken ++ b) (option_map (λ taken. taken ++ a) o) ≡ option_map (λ taken. taken ++ (a ++ b)) o
taken_both a b None = refl
taken_both a b (Some taken) = ap (λ (l : List ℕ). Some l) (append_assoc taken a b)

-- a link took a prefix of its frame, and all of it where its count stayed
record TakesFrame (frame : List ℕ) (old new : Cell) : Type 0 where
  prefix : List ℕ
  is : prefix ≡ take (length prefix) frame
  took : new.accepted ≡ option_map (λ taken. taken ++ prefix) old.accepted
  whole : (Rose old.faults new.faults → ⊥) → new.accepted ≡ option_map (λ taken. taken ++ frame) old.accepted

-- a link that was asked took a prefix of its frame, and the whole of it where no call failed
takes_frame : (address frame : List ℕ) (most : ℕ) (answer : Option (List ℕ)) (old new : Cell)
    → LinkAsked address frame most answer old new → TakesFrame frame old new
takes_frame address frame most (Some bytes) old new asked = record {
  prefix = frame;
  is = sym (take_all (length frame) frame (omega arith));
  took = ap (λ (c : Cell). c.accepted) asked.cell;
  whole = λ _. ap (λ (c : Cell). c.accepted) asked.cell;
}
takes_frame address frame most None old new asked = elim asked.how [
  | inl unopened ↦ record {
    prefix = [];
    is = refl;
    took = ap (λ (c : Cell). c.accepted) unopened ∙ taken_none old.accepted;
    whole = λ stayed. absurd (stayed (once_rose _ _ asked.rose));
  }
  | inr (inl cut) ↦ record {
    prefix = take cut.n frame;
    is = ap (λ (k : ℕ). take k frame) (sym (length-take-le cut.n frame (omega (arith, cut.proper))));
    took = ap (λ (c : Cell). c.accepted) cut.cell;
    whole = λ stayed. absurd (stayed (once_rose _ _ asked.rose));
  }
  | inr (inr silent) ↦ record {
    prefix = frame;
    is = sym (take_all (length frame) frame (omega arith));
    took = ap (λ (c : Cell). c.accepted) silent.cell;
    whole = λ stayed. absurd (stayed (once_rose _ _ asked.rose));
  }
]

-- of each frame in turn a prefix, and all of each where the count stayed
takes_frames : (p : FetchPlan) (address : List ℕ) (i : ℕ) (rounds : List Round) (old new : Cell)
    → AskedInTurn p address i rounds old new → TakesFrames (frames_to p (i + 1) rounds) old new
takes_frames p address i [] old new asked = record {
  prefixes = [];
  are = tt;
  most = let same : new.faults ≡ old.faults = ap (λ (c : Cell). c.faults) asked in omega (arith, same);
  took = ap (λ (c : Cell). c.accepted) asked ∙ taken_none old.accepted;
  whole = λ _. ap (λ (c : Cell). c.accepted) asked ∙ taken_none old.accepted;
}
takes_frames p address i (round ∷ rounds) old new asked =
    let mid = asked.0 in
    let frame = frame_in p (i + 1) round in
    let answer = slice_index_or round.session.records i None in
    let first = takes_frame address frame (answer_len 1 p.s) answer old mid asked.1.0 in
    let rest = takes_frames p address i rounds mid new asked.1.1 in
    let counted = link_counts address frame (answer_len 1 p.s) answer old mid asked.1.0 in
    let later = counts p address i rounds mid new asked.1.1 in
    record {
      prefixes = first.prefix ∷ rest.prefixes;
      are = (first.is, rest.are);
      most = let most = rest.most in elim counted [ inl same ↦ omega (arith, most, same) | inr once ↦ omega (arith, most, once) ];
      took = rest.took ∙ ap (option_map (λ taken. taken ++ concat rest.prefixes)) first.took
          ∙ taken_both first.prefix (concat rest.prefixes) old.accepted;
      whole = λ stayed. elim counted [
        | inl same ↦
            rest.whole (λ rose. stayed (subst (λ (k : ℕ). Rose k new.faults) same rose))
            ∙ ap (option_map (λ taken. taken ++ concat (frames_to p (i + 1) rounds)))
            (first.whole (λ rose. stayed (rose_again old.faults mid.faults new.faults rose later)))
            ∙ taken_both frame (concat (frames_to p (i + 1) rounds)) old.accepted
        | inr once ↦ absurd (stayed (rose_again old.faults mid.faults new.faults (once_rose _ _ once) later))
      ];
    }

-- the same of each link
pub take_frames : (p : FetchPlan) (addresses : List (List ℕ)) (rounds : List Round) (old new : World)
    → AskEach p addresses rounds old new → TakeFrames p rounds old new
take_frames p addresses rounds old new asked =
    each_as (λ i. AskedInTurn p (slice_index_or addresses i []) i rounds) (λ i. TakesFrames (frames_to p (i + 1) rounds))
    (link 1) p.n old new (λ i _ c d. takes_frames p (slice_index_or addresses i []) i rounds c d) asked
