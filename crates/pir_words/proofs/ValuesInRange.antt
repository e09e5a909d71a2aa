-- The values that several commands have are in their ranges.
use Rattle.std.proofs.Common.{◌≡◌, ◌⊎◌, inl, inr, ℕ, ◌<◌, ◌≤◌, ◌*◌, ◌^◌, ◌&&◌, List, [], ◌∷◌, All, length, Option, Some, None, codes, unwrap_or, refl, lit<, subst, ap, arith}
use Rattle.std.specs.Prelude.{nat_le, nat_lt, option_map}
use Rattle.std.specs.List.{list_all}
use Rattle.std.specs.Str.Parse.{digits_value}
use Rattle.std.proofs.lemmas.Bool.{and_parts, leb-true, ltb-true}
use Rattle.std.proofs.lemmas.List.Elements.{All-nil, All-cons}
use Rattle.clap.specs.Words.{Row, Text, first_of}
use Rattle.quantity_limits.specs.Shape.{IsShape}
use Rattle.wire_frames.proofs.Counts.{single_count}
use Rattle.quantity_limits.specs.declared.TheConstants.{LEAST_SERVERS, MOST_BLOCKS, MOST_DEGREE, MOST_SERVERS, MOST_ROWS, MOST_WIDTH, MOST_CELLS, MOST_WORKERS}
use Rattle.wire_frames.specs.declared.scheme.Scheme.{Scheme}
use Rattle.wire_frames.specs.declared.scheme.Scheme.TheVariants.{Shamir, Xor}
use Rattle.wire_frames.specs.declared.scheme.TheConstants.{SHAMIR, XOR}
use Rattle.wire_frames.specs.Scheme.{number_of}
use Rattle.pir_words.specs.Chain.{◌>>=◌}
use Rattle.pir_words.specs.Numbers.{is_digit, limited, number, number_in}
use Rattle.pir_words.specs.Ranges.{FitsSession, block_in, row_named, servers_in, sharing_in, sizes_in, workers_in}
use Rattle.pir_words.specs.FetchForm.{AreAtOnce, at_once, blocks_in, more_texts, rows_behind, rows_named}
use Rattle.pir_words.specs.declared.ranges.Sizes.{Sizes}
use Rattle.pir_words.specs.declared.ranges.Sharing.{Sharing}
use Rattle.pir_words.proofs.Chains.{some_is, test_of, value_of}

-- a number is below 2^64
number_below : (text : Text) (n : ℕ) → number text ≡ Some n → n < 2 ^ 64
unfolding number
number_below text n e =
    let some = test_of (nat_lt 0 (length text)) _ n e in
    let digits = test_of (list_all is_digit text) _ n some.1 in
    let below = test_of (nat_lt (digits_value 10 text) (2 ^ 64)) _ n digits.1 in
    subst (λ k. k < 2 ^ 64) (some_is _ n below.1) (ltb-true _ _ below.0)

-- and so is that of an option
pub number_range : (id : Text) (m : List Row) (n : ℕ) → number_in id m ≡ Some n → n < 2 ^ 64
unfolding number_in
number_range id m n e =
    let text = value_of (first_of id m) _ n e in
    number_below text.0 n text.2

-- a number from least to most is one
pub limited_range : (id : Text) (least most : ℕ) (m : List Row) (n : ℕ) → limited id least most m ≡ Some n → (least ≤ n) × (n ≤ most)
unfolding limited
limited_range id least most m n e =
    let given = value_of (number_in id m) _ n e in
    let tested = test_of (nat_le least given.0 && nat_le given.0 most) (Some given.0) n given.2 in
    let both = and_parts (nat_le least given.0) (nat_le given.0 most) tested.0 in
    subst (λ k. (least ≤ k) × (k ≤ most)) (some_is given.0 n tested.1) (leb-true least given.0 both.0, leb-true given.0 most both.1)

-- the sizes are those of a database
pub sizes_range : (m : List Row) (sizes : Sizes) → sizes_in m ≡ Some sizes → IsShape sizes.rows sizes.width
unfolding sizes_in
sizes_range m sizes e =
    let rows = value_of (limited (codes "rows") 1 MOST_ROWS m) _ sizes e in
    let width = value_of (limited (codes "width") 1 MOST_WIDTH m) _ sizes rows.2 in
    let cells = test_of (nat_le (rows.0 * width.0) MOST_CELLS) _ sizes width.2 in
    let r = limited_range _ _ _ m _ rows.1 in
    let s = limited_range _ _ _ m _ width.1 in
    subst (λ (z : Sizes). IsShape z.rows z.width) (some_is _ sizes cells.1) (record {
      some_rows = r.0;
      few_rows = r.1;
      some_bytes = s.0;
      few_bytes = s.1;
      few_cells = leb-true _ _ cells.0;
    })

-- a row that a text names is one of the rows
pub row_range : (rows : ℕ) (text : Text) (row : ℕ) → row_named rows text ≡ Some row → row < rows
unfolding row_named
row_range rows text row e =
    let given = value_of (number text) _ row e in
    let tested = test_of (nat_lt given.0 rows) _ row given.2 in
    subst (λ b. b < rows) (some_is _ row tested.1) (ltb-true _ _ tested.0)

-- and so is the block
pub block_range : (rows : ℕ) (m : List Row) (block : ℕ) → block_in rows m ≡ Some block → block < rows
unfolding block_in
block_range rows m block e =
    let text = value_of (first_of (codes "block") m) _ block e in
    row_range rows text.0 block text.2

-- rows that texts name are too
pub rows_range : (rows : ℕ) (texts : List Text) (named : List ℕ) → rows_named rows texts ≡ Some named → All (λ b. b < rows) named
unfolding rows_named
rows_range rows [] named e = subst (All (λ b. b < rows)) (some_is [] named e) (All-nil (λ b. b < rows))
rows_range rows (text ∷ texts) named e =
    let row = value_of (row_named rows text) _ named e in
    let others = value_of (rows_named rows texts) _ named row.2 in
    subst (All (λ b. b < rows)) (some_is (row.0 ∷ others.0) named others.2)
    (All-cons (λ b. b < rows) row.0 others.0 (row_range rows text row.0 row.1) (rows_range rows texts others.0 others.1))

-- and blocks that are read may be asked for at once
pub blocks_range : (sizes : Sizes) (m : List Row) (blocks : List ℕ) → blocks_in sizes m ≡ Some blocks → AreAtOnce sizes.rows sizes.width blocks
unfolding blocks_in at_once rows_behind
blocks_range sizes m blocks e =
    let block = value_of (block_in sizes.rows m) _ blocks e in
    let all = value_of (rows_behind block.0 sizes.rows (more_texts (first_of (codes "more") m))) _ blocks block.2 in
    let more = value_of (rows_named sizes.rows (more_texts (first_of (codes "more") m))) (λ others. Some (block.0 ∷ others)) all.0 (mapped (rows_named sizes.rows (more_texts (first_of (codes "more") m))) block.0 all.0 all.1) in
    let tested = test_of (at_once sizes.width all.0) _ blocks all.2 in
    let both = and_parts (nat_le (length all.0) MOST_BLOCKS) (nat_le (length all.0 * sizes.width) MOST_WIDTH) tested.0 in
    let is = some_is (block.0 ∷ more.0) all.0 more.2 in
    subst (AreAtOnce sizes.rows sizes.width) (some_is all.0 blocks tested.1) (record {
      some = omega (arith, ap length is);
      few = leb-true _ _ both.0;
      each = subst (All (λ b. b < sizes.rows)) is (All-cons (λ b. b < sizes.rows) block.0 more.0 (block_range sizes.rows m block.0 block.1) (rows_range sizes.rows _ more.0 more.1));
      few_bytes = leb-true _ _ both.1;
    })
  where
    -- the first row stands before the others
    mapped : (o : Option (List ℕ)) (first : ℕ) (all : List ℕ) → option_map (λ others. first ∷ others) o ≡ Some all → (o >>= (λ others. Some (first ∷ others))) ≡ Some all
    mapped None first all h = cc
    mapped (Some others) first all h = h

-- a scheme's number is one of the two
pub scheme_range : (scheme : Scheme) → (number_of scheme ≡ SHAMIR) ⊎ (number_of scheme ≡ XOR)
scheme_range Shamir = inl refl
scheme_range Xor = inr refl

-- there are as many servers as there may be
pub servers_range : (m : List Row) (n : ℕ) → servers_in m ≡ Some n → (LEAST_SERVERS ≤ n) × (n ≤ MOST_SERVERS)
unfolding servers_in
servers_range m n e = limited_range _ _ _ m n e

-- degree and agreement of n servers
pub record IsSharing (sharing : Sharing) (n : ℕ) : Type 0 where
  pub private : 1 ≤ sharing.degree
  pub few_private : sharing.degree ≤ MOST_DEGREE
  pub agreement : sharing.degree < sharing.agree
  pub servers : sharing.agree ≤ n

-- what is read is so
pub sharing_range : (n : ℕ) (m : List Row) (sharing : Sharing) → sharing_in n m ≡ Some sharing → IsSharing sharing n
unfolding sharing_in
sharing_range n m sharing e =
    let degree = value_of (limited (codes "degree") 1 MOST_DEGREE m) _ sharing e in
    let agree = value_of (number_in (codes "agree") m) _ sharing degree.2 in
    let tested = test_of (nat_lt degree.0 agree.0 && nat_le agree.0 n) _ sharing agree.2 in
    let both = and_parts (nat_lt degree.0 agree.0) (nat_le agree.0 n) tested.0 in
    let t = limited_range _ _ _ m _ degree.1 in
    subst (λ (s : Sharing). IsSharing s n) (some_is _ sharing tested.1) (record {
      private = t.0;
      few_private = t.1;
      agreement = ltb-true _ _ both.0;
      servers = leb-true _ _ both.1;
    })

-- with which a session of Shamir's scheme may be
pub shamir_fits : (sizes : Sizes) (sharing : Sharing) (n : ℕ) → IsShape sizes.rows sizes.width → IsSharing sharing n
    → n ≤ MOST_SERVERS → FitsSession SHAMIR sharing n sizes
shamir_fits sizes sharing n shape shares few = record {
  scheme = inl refl;
  private = shares.private;
  few_private = shares.few_private;
  agreement = shares.agreement;
  few_agree = omega (arith, shares.servers, few);
  servers = shares.servers;
  few_servers = few;
  all_agree = λ e. omega (arith, e);
  all_answer = λ e. omega (arith, e);
  session = lit< tt;
  shape = shape;
  blocks = single_count sizes.rows sizes.width shape;
}

-- there are as many workers as there may be
pub workers_range : (m : List Row) (workers : ℕ) → workers_in m ≡ Some workers → (1 ≤ workers) × (workers ≤ MOST_WORKERS)
unfolding workers_in
workers_range m workers e =
    let given = value_of (number (unwrap_or (first_of (codes "workers") m) (codes "1"))) _ workers e in
    let tested = test_of (nat_le 1 given.0 && nat_le given.0 MOST_WORKERS) _ workers given.2 in
    let both = and_parts (nat_le 1 given.0) (nat_le given.0 MOST_WORKERS) tested.0 in
    subst (λ n. (1 ≤ n) × (n ≤ MOST_WORKERS)) (some_is given.0 workers tested.1) (leb-true _ _ both.0, leb-true _ _ both.1)
