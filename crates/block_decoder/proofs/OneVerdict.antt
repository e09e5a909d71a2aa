-- A session has one verdict at most.
use Rattle.std.proofs.Common.{◌≡◌, ℕ, List, inl, inr, sym, ap, ap₂, ◌∙◌, arith}
use Rattle.std.proofs.lemmas.Cmp.{nat_list_cmp_total}
use Rattle.wire_frames.specs.Answer.{Answer, answers, block_len}
use Rattle.wire_frames.specs.Limits.{IsInRange}
use Rattle.wire_frames.specs.Session.{Transcript}
use Rattle.block_decoder.specs.Agreed.{Lists}
use Rattle.block_decoder.specs.Verdict.{IsDecided, IsCombined, IsVerdict}
use Rattle.block_decoder.specs.declared.verdict.Verdict.{Verdict}
use Rattle.block_decoder.specs.declared.verdict.Verdict.TheVariants.{Listed, TooFew, TooWeak, TooCostly}
use Rattle.block_decoder.proofs.Members.{same_members}

-- the agreed blocks are listed in one way
pub one_listing : (answers : List Answer) (width t h : ℕ) (one other : List (List ℕ)) → Lists one answers width t h → Lists other answers width t h → one ≡ other
one_listing answers width t h one other p q = same_members nat_list_cmp_total one other p.ascending q.ascending (λ block. (
  λ c. (q.exact block).1 ((p.exact block).0 c),
  λ c. (p.exact block).1 ((q.exact block).0 c),
))

-- with equal numbers two such verdicts are one
too_weak : (k t h j u i : ℕ) → k ≡ j → t ≡ u → h ≡ i → ◌≡◌ {A = Verdict} (TooWeak k t h) (TooWeak j u i)
too_weak k t h j u i a b c = cc

module _ (all : List Answer) (width : ℕ) where
  -- two verdicts on the same answers are one
  pub one_decided : (t h : ℕ) (one other : Verdict) → IsDecided all width t h one → IsDecided all width t h other → one ≡ other
  one_decided t h (TooFew k agree) (TooFew j agreed) p q = ap₂ TooFew (p.0 ∙ sym q.0) (p.1 ∙ sym q.1)
  one_decided t h (TooFew k agree) (TooWeak j u agreed) p q = absurd (let few = p.2 in let enough = q.3 in omega (arith, few, enough))
  one_decided t h (TooFew k agree) (Listed blocks) p q = absurd (let few = p.2 in let enough = q.0 in omega (arith, few, enough))
  one_decided t h (TooFew k agree) (TooCostly equations) p q = absurd (let few = p.2 in let enough = q.1 in omega (arith, few, enough))
  one_decided t h (TooWeak k u agree) (TooFew j agreed) p q = absurd (let enough = p.3 in let few = q.2 in omega (arith, few, enough))
  one_decided t h (TooWeak k u agree) (TooWeak j v agreed) p q = too_weak k u agree j v agreed (p.0 ∙ sym q.0) (p.1 ∙ sym q.1) (p.2 ∙ sym q.2)
  one_decided t h (TooWeak k u agree) (Listed blocks) p q = absurd (let weak = p.4 in let strong = q.1 in omega (arith, weak, strong))
  one_decided t h (TooWeak k u agree) (TooCostly equations) p q = absurd (let weak = p.4 in let strong = q.2 in omega (arith, weak, strong))
  one_decided t h (TooCostly equations) (TooFew j agreed) p q = absurd (let enough = p.1 in let few = q.2 in omega (arith, few, enough))
  one_decided t h (TooCostly equations) (TooWeak j v agreed) p q = absurd (let weak = q.4 in let strong = p.2 in omega (arith, weak, strong))
  one_decided t h (TooCostly equations) (TooCostly others) p q = ap TooCostly (p.0 ∙ sym q.0)
  one_decided t h (TooCostly equations) (Listed blocks) p q = absurd (let costly = p.3 in let cheap = q.2 in omega (arith, costly, cheap))
  one_decided t h (Listed blocks) (TooFew j agreed) p q = absurd (let enough = p.0 in let few = q.2 in omega (arith, few, enough))
  one_decided t h (Listed blocks) (TooWeak j v agreed) p q = absurd (let weak = q.4 in let strong = p.1 in omega (arith, weak, strong))
  one_decided t h (Listed blocks) (TooCostly equations) p q = absurd (let costly = q.3 in let cheap = p.2 in omega (arith, costly, cheap))
  one_decided t h (Listed blocks) (Listed others) p q = ap Listed (one_listing all width t h blocks others p.3 q.3)

  -- and in the XOR scheme
  pub one_combined : (n h : ℕ) (one other : Verdict) → IsCombined all width n h one → IsCombined all width n h other → one ≡ other
  one_combined n h (TooFew k agree) (TooFew j agreed) p q = ap₂ TooFew (p.0 ∙ sym q.0) (p.1 ∙ sym q.1)
  one_combined n h (TooFew k agree) (Listed blocks) p q = absurd (let few = p.2 in let enough = q.0 in omega (arith, few, enough))
  one_combined n h (Listed blocks) (TooFew j agreed) p q = absurd (let enough = p.0 in let few = q.2 in omega (arith, few, enough))
  one_combined n h (Listed blocks) (Listed others) p q = ap Listed (p.1 ∙ sym q.1)
  one_combined n h (TooWeak k u agree) other p q = absurd p
  one_combined n h (TooCostly equations) other p q = absurd p
  one_combined n h (TooFew k agree) (TooWeak j v agreed) p q = absurd q
  one_combined n h (Listed blocks) (TooWeak j v agreed) p q = absurd q
  one_combined n h (TooFew k agree) (TooCostly equations) p q = absurd q
  one_combined n h (Listed blocks) (TooCostly equations) p q = absurd q

-- two verdicts on a session whose numbers are in range are one
pub one_verdict : (session : Transcript) (one other : Verdict) → IsInRange session.params → IsVerdict session one → IsVerdict session other → one ≡ other
one_verdict session one other range p q =
    let params = session.params in
    elim range.scheme [
      | inl shamir ↦ one_decided (answers session) (block_len params) params.t params.h one other (p.shamir shamir) (q.shamir shamir)
      | inr xor ↦ one_combined (answers session) (block_len params) params.n params.h one other (p.xor xor) (q.xor xor)
    ]
