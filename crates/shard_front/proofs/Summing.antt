-- The sum of the payloads of shards, one after the other.
use Rattle.std.proofs.Common.{◌≡◌, ◌∙◌, inr, ℕ, ◌+◌, ◌<◌, List, [], ◌∷◌, ◌++◌, length, get_or, refl, sym, ap, subst, arith, length-append}
use Rattle.std.proofs.lemmas.List.{ext_get_or, get_or_append_left}
use Rattle.std.proofs.Math.Seq.{get_or-append_seam}
use Rattle.std.proofs.lemmas.List.FromFn.{length-map-range_with_len, get_or-map-range_with_len}
use Rattle.gf256.specs.Field.{◌⊕◌}
use Rattle.gf256.specs.Sums.{sum_to}
use Rattle.port_trait.specs.declared.port.TheConstants.{PORT_COUNT}
use Rattle.port_trait.specs.World.{Cell, World}
use Rattle.port_trait.specs.Number.{link}
use Rattle.port_trait.specs.Moves.{Touches}
use Rattle.port_trait.specs.Each.{Each}
use Rattle.port_trait.proofs.Ranges.{each_as, each_more, each_none, range_more, range_none, range_still}
use Rattle.chor_xor.specs.Chosen.{combined, combined_at}
use Rattle.chor_xor.proofs.ChosenSums.{combined_at-push}
use Rattle.shard_front.specs.Spread.{shards}
use Rattle.shard_front.specs.RelayedQuery.{RelayedQuery}
use Rattle.shard_front.specs.Parts.{part_at}
use Rattle.shard_front.specs.Shard.{AddsPayload, ShardAnswers, ShardIsLost}
use Rattle.shard_front.specs.Asked.{FirstLost, SumsFirst}

-- none
combined_none : (k : ℕ) → combined_at [] k ≡ 0
unfolding combined_at sum_to
combined_none k = refl

-- bytes that are the sum in each place are the sum
pub combined_is : (width : ℕ) (payloads : List (List ℕ)) (sum : List ℕ) → length sum ≡ width
    → ((k : ℕ) → get_or sum k 0 ≡ combined_at payloads k) → sum ≡ combined width payloads
unfolding combined
combined_is width payloads sum long each =
    ext_get_or 0 sum _ (long ∙ sym (length-map-range_with_len (combined_at payloads) 0 width))
    (λ k l. each k ∙ sym (get_or-map-range_with_len (combined_at payloads) 0 width k k 0 (omega (arith, l, long)) (omega arith)))

module _ (relay : RelayedQuery) where
  -- a shard answered, with the payload at its place
  abbrev Answers : List (List ℕ) → ℕ → Cell → Cell → Type 0
  Answers payloads i old new = ShardAnswers (part_at relay i) (get_or payloads i []) old new

  -- before the first shard
  pub sums_none : (sum : List ℕ) (w : World) → ((k : ℕ) → get_or sum k 0 ≡ 0) → SumsFirst relay 0 sum w w
  sums_none sum w zeros = record {
    payloads = [];
    answer = record { count = refl; each = each_none (Answers []) (link 1) w w };
    sum_is = λ k. zeros k ∙ sym (combined_none k);
    others = range_none (link 1) w;
  }

  -- one shard more
  pub sums_more : (n : ℕ) (before after : List ℕ) (w v u : World) → link 1 + n < PORT_COUNT → SumsFirst relay n before w v
      → AddsPayload (part_at relay n) before after (v.at (link 1 + n)) (u.at (link 1 + n)) → Touches (link 1 + n) v u
      → SumsFirst relay (n + 1) after w u
  sums_more n before after w v u fits s adds touch =
      let all = s.payloads ++ adds.payload ∷ [] in
      let count = s.answer.count in
      let kept : Each (Answers all) (link 1) n w v =
      each_as (Answers s.payloads) (Answers all) (link 1) n w v
      (λ i l c d a. subst (λ (p : List ℕ). ShardAnswers (part_at relay i) p c d)
      (sym (get_or_append_left s.payloads (adds.payload ∷ []) [] i (omega (arith, l, count)))) a) s.answer.each in
      let here : adds.payload ≡ get_or all n [] = sym (get_or-append_seam s.payloads adds.payload [] []) ∙ ap (λ (k : ℕ). get_or all k []) count in
      let last : Answers all n (v.at (link 1 + n)) (u.at (link 1 + n)) =
      subst (λ (p : List ℕ). ShardAnswers (part_at relay n) p (v.at (link 1 + n)) (u.at (link 1 + n))) here adds.answers in
      record {
        payloads = all;
        answer = record {
          count = length-append s.payloads (adds.payload ∷ []) ∙ ap (λ (k : ℕ). k + 1) count;
          each = each_more (Answers all) (link 1) n w v u fits kept s.others touch last;
        };
        sum_is = λ k. adds.sum k ∙ ap (λ (b : ℕ). b ⊕ get_or adds.payload k 0) (s.sum_is k) ∙ sym (combined_at-push s.payloads adds.payload k);
        others = range_more (link 1) n w v u s.others touch;
      }

  -- and the next one is lost
  pub lost_next : (n number : ℕ) (sum : List ℕ) (w v u : World) → link 1 + n < PORT_COUNT → n < shards relay.spread → number ≡ n + 1
      → SumsFirst relay n sum w v → ShardIsLost (part_at relay n) (v.at (link 1 + n)) (u.at (link 1 + n)) → Touches (link 1 + n) v u
      → FirstLost relay number w u
  lost_next n number sum w v u fits there is s lost touch =
      let still : v.at (link 1 + n) ≡ w.at (link 1 + n) = range_still (link 1) n (link 1 + n) w v s.others fits (inr (omega arith)) in
      record {
        place = n;
        number_is = is;
        there = there;
        payloads = s.payloads;
        before = record {
          count = s.answer.count;
          each = record {
            each = λ i l. subst (λ (d : Cell). Answers s.payloads i (w.at (link 1 + i)) d)
                (sym (touch.others (link 1 + i) (omega (arith, l, fits)) (λ e. omega (arith, l, e)))) (s.answer.each.each i l);
          };
        };
        lost = subst (λ (c : Cell). ShardIsLost (part_at relay n) c (u.at (link 1 + n))) still lost;
      }
