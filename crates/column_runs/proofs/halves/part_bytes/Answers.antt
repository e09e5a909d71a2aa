use Rattle.std.proofs.Common.{◌≡◌, ℕ, ◌+◌, ◌*◌, ◌/◌, ◌<◌, List, length, get_or, set, bit_and, bit_xor, ap₂, ◌∙◌, arith, below_more}
use Rattle.std.proofs.lemmas.List.{get_or-set_same, get_or-set_other}
use Rattle.gf256.specs.Field.{◌⊕◌}
use Rattle.gf256.proofs.Xor.{add_lt}
use Rattle.column_runs.proofs.Together.{byte-together, low-small, Each1-set}
use Rattle.column_runs.proofs.halves.part_bytes.Goals as goal

-- one byte more
each-more : (lows highs : List ℕ) (g : ℕ → ℕ) (c l h : ℕ) → c < length lows → c < length highs → h * 16 + l ≡ g c
    → ((k : ℕ) → k < c → get_or highs k 0 * 16 + get_or lows k 0 ≡ g k)
    → (k : ℕ) → k < c + 1 → get_or (set highs c h) k 0 * 16 + get_or (set lows c l) k 0 ≡ g k
each-more lows highs g c l h in_lows in_highs here before =
    below_more (λ k. get_or (set highs c h) k 0 * 16 + get_or (set lows c l) k 0 ≡ g k) c
    (λ k less.
    ap₂ (λ h l. h * 16 + l) (get_or-set_other highs c k h 0 (λ e. omega (arith, e, less))) (get_or-set_other lows c k l 0 (λ e. omega (arith, e, less)))
    ∙ before k less)
    (ap₂ (λ h l. h * 16 + l) (get_or-set_same highs c h 0 in_highs) (get_or-set_same lows c l 0 in_lows) ∙ here)

pub loop-c-preserved : goal.loop-c-preserved
unfolding ◌⊕◌
loop-c-preserved c =
    let place = c.loop-c.c in
    let row = c.args.row.now in
    let first = c.args.first.now in
    let lows = c.loop-c.low in
    let highs = c.loop-c.high in
    let x = bit_xor (get_or row place 0) (get_or first place 0) in
    let byte : x < 256 = add_lt (get_or row place 0) (get_or first place 0) (c.type_inv.row place).fits (c.type_inv.first place).fits in
    let room = c.requires.room in
    let size_low = c.loop-c.auto.low in
    let size_high = c.loop-c.auto.high in
    record {
      low = Each1-set (λ l. l < 16) lows place (bit_and x 15) c.loop-c.invariant.low (low-small x);
      high = Each1-set (λ h. h < 16) highs place (x / 16) c.loop-c.invariant.high (omega (arith, byte));
      each =
          each-more lows highs (λ k. bit_xor (get_or row k 0) (get_or first k 0)) place (bit_and x 15) (x / 16)
          (omega (arith, room, size_low, c.loop-c-test.true)) (omega (arith, room, size_high, c.requires.same, c.loop-c-test.true))
          (byte-together x) c.loop-c.invariant.each;
    }
