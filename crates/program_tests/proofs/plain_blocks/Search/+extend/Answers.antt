use Rattle.std.proofs.Common.{◌≡◌, ◌+◌, ◌-◌, ◌^◌, ◌<◌, ◌≤◌, ◌↔◌, ℕ, List, [], ◌∷◌, ◌++◌, length, take, vec_len, sym, ap, subst, ◌∙◌, arith, lit<}
use Rattle.std.proofs.Math.Nat.{pow-le-pow_right}
use Rattle.std.proofs.Math.Seq.{take-append_seam}
use Rattle.std.proofs.lemmas.List.{length-append}
use Rattle.std.proofs.lemmas.Result.{on_ok_weaker}
use Rattle.block_decoder.specs.Agreed.{constants_of, weight}
use Rattle.block_decoder.specs.Gains.{Gains}
use Rattle.block_decoder.specs.Numbered.{all_numbered, Continues, ContinuesBelow}
use Rattle.program_tests.specs.Search.{sought}
use Rattle.block_decoder.proofs.Continued.{continues-light}
use Rattle.block_decoder.proofs.Continues.{Gains-none, Gains-same, Gains-both, Continues-whole, Continues-next, ContinuesBelow-more}
use Rattle.program_tests.proofs.plain_blocks.Search.+extend.Goals as goal

-- what is left after the last is taken away
without_last : (xs : List ℕ) (n m : ℕ) → m ≡ length (xs ++ n ∷ []) → take (m - 1) (xs ++ n ∷ []) ≡ xs
without_last xs n m e =
    let l = length-append xs (n ∷ []) in
    let k : m - 1 ≡ length xs = omega (arith, l, e) in
    ap (λ k. take k (xs ++ n ∷ [])) k ∙ take-append_seam xs (n ∷ [])

pub returns-then-weight-self-clause-exact : goal.returns-then-weight-self-clause-exact
returns-then-weight-self-clause-exact t c =
    let s = c.args.self.now in
    let w = rw c.deref.ensures.value at c.weight.ensures in
    Gains-none (Continues (sought s) c.args.numbers.now.items) c.args.listing.now
    (continues-light constants_of (sought s) (all_numbered s.degree c.args.numbers.now.items) (omega (arith, w, c.if-weight-self.true)))

pub returns-then-len-self-clause-exact : goal.returns-then-len-self-clause-exact
returns-then-len-self-clause-exact t c =
    let s = c.args.self.now in
    let numbers = c.args.numbers.now.items in
    let w = rw c.deref.ensures.value at c.weight.ensures in
    let block = rw c.deref-then-len-self.ensures.value at c.in_ok-constants.ensures in
    let whole : length numbers ≡ s.width = sym c.args.numbers.now.ok.0 ∙ sym c.len.ensures ∙ c.if-len-self.true in
    let enough : s.agreement ≤ weight (all_numbered s.degree numbers) s.answers = omega (arith, w, c.if-weight-self.false) in
    let IsBlock : List ℕ → Type 0 = λ b. b ≡ c.in_ok-constants.field-0.items in
    on_ok_weaker c.insert.result
    (Gains-same IsBlock (Continues (sought s) numbers) c.args.listing.now c.insert.new.self
    (λ b. let alone = Continues-whole (sought s) numbers whole enough b in
    (λ e. alone.0 (e ∙ block), λ more. alone.1 more ∙ sym block)))
    c.insert.ensures.ok

pub pow-number-end-requires : goal.pow-number-end-requires
pow-number-end-requires t c =
    let few : c.args.self.now.degree + 1 ≤ 7 = omega (arith, c.args.self.now.small) in
    let most : 256 ^ 7 < 18446744073709551616 = lit< tt in
    let pos : 0 < 256 = lit< tt in
    let below = pow-le-pow_right pos few in
    omega (arith, below, most)

pub loop-number-preserved : goal.loop-number-preserved
loop-number-preserved t c =
    let s = c.args.self.now in
    let numbers = c.args.numbers.now.items in
    let pushed = rw c.loop-number.invariant.kept at c.in_ok-push.ensures.items in
    let extended = rw pushed at c.in_ok-extend.ensures.kept in
    let rest = rw extended at c.pop.ensures.rest in
    let kept = rw (without_last numbers c.loop-number.number (vec_len c.extend.new.numbers) (c.extend.new.numbers.ok.0 ∙ ap length extended)) at rest in
    record {
      kept = kept;
      length_kept = c.pop.new.self.ok.0 ∙ ap length kept ∙ sym c.args.numbers.now.ok.0;
      ascending = c.extend.ensures.ascending;
      gains = Gains-both
          (ContinuesBelow c.loop-number.number (sought s) numbers)
          (Continues (sought s) (numbers ++ c.loop-number.number ∷ []))
          (ContinuesBelow (c.loop-number.number + 1) (sought s) numbers)
          c.args.listing.now c.loop-number.listing c.extend.new.listing c.loop-number.invariant.gains
          (subst (λ ns. Gains (Continues (sought s) ns) c.loop-number.listing c.extend.new.listing) pushed c.in_ok-extend.ensures.exact)
          (ContinuesBelow-more (sought s) numbers c.loop-number.number);
    }

pub returns-clause-exact : goal.returns-clause-exact
returns-clause-exact t c =
    let s = c.args.self.now in
    let numbers = c.args.numbers.now.items in
    let end : c.loop-number.number ≡ 256 ^ (s.degree + 1) = omega (arith, c.pow-number-end.ensures) in
    let short : length numbers < s.width = omega (arith, c.args.numbers.now.ok.0, c.requires.columns, c.len.ensures, c.if-len-self.false) in
    Gains-same (ContinuesBelow c.loop-number.number (sought s) numbers) (Continues (sought s) numbers) c.args.listing.now c.loop-number.listing
    (subst (λ n. (b : List ℕ) → ContinuesBelow n (sought s) numbers b ↔ Continues (sought s) numbers b) (sym end) (Continues-next (sought s) numbers short))
    c.loop-number.invariant.gains
