use Rattle.std.proofs.Common.{◌≡◌, ◌∙◌, ◌-◌, ◌*◌, ◌<◌, ◌++◌, replicate, length, sym, ap, subst, arith}
use Rattle.std.specs.List.{All}
use Rattle.std.specs.Int.{div_ceil}
use Rattle.quantity_limits.specs.Shape.{IsShape}
use Rattle.block_matrix.specs.Database.{filled_up, rows_of, database}
use Rattle.block_matrix.proofs.Counts.{shape_of_file, length-filled_up}
use Rattle.block_matrix.proofs.matrix.Matrix.from_bytes.Goals as goal

-- how many rows there are
rows_are : (c : goal.After-are_bytes) → c.div_ceil-rows.result ≡ div_ceil (length c.args.bytes.items) c.args.width
rows_are c =
    let len : c.len-len.result ≡ length c.args.bytes.items = c.len-len.ensures ∙ c.args.bytes.ok.0 in
    c.div_ceil-rows.ensures ∙ ap (λ w. div_ceil c.len-len.result w) c.from.ensures ∙ ap (λ n. div_ceil n c.args.width) len

-- the bytes are filled up
bytes_are : (c : goal.After-are_bytes) → c.fill_up.new.bytes.items ≡ filled_up c.args.width c.args.bytes.items
bytes_are c =
    let whole : c.div_ceil-rows.result * c.from-2.result ≡ div_ceil (length c.args.bytes.items) c.args.width * c.args.width =
    ap (λ w. c.div_ceil-rows.result * w) c.from-2.ensures ∙ ap (λ n. n * c.args.width) (rows_are c) in
    c.in_ok-fill_up.ensures ∙ ap (λ n. c.args.bytes.items ++ replicate (n - length c.args.bytes.items) 0) whole

pub invariant_of-result : goal.invariant_of-result
invariant_of-result c =
    let len : c.len-len.result ≡ length c.args.bytes.items = c.len-len.ensures ∙ c.args.bytes.ok.0 in
    record {
      shape =
          subst (λ n. IsShape n c.args.width) (sym (rows_are c))
          (shape_of_file (length c.args.bytes.items) c.args.width c.requires.some c.requires.few
          (omega (arith, len, c.if-len-eq0.false)) (omega (arith, len, c.if-len-limit.false, c.most_bytes-limit.ensures.is)));
      size =
          c.fill_up.new.bytes.ok.0 ∙ ap length (bytes_are c) ∙ length-filled_up c.args.width c.args.bytes.items (omega (arith, c.requires.some))
          ∙ ap (λ n. n * c.args.width) (sym (rows_are c));
      bytes = subst (All (λ b. b < 256)) c.deref.ensures.value c.are_bytes.ensures;
    }

pub returns : goal.returns
unfolding database
returns c =
    let len : c.len-len.result ≡ length c.args.bytes.items = c.len-len.ensures ∙ c.args.bytes.ok.0 in
    record {
      some = omega (arith, len, c.if-len-eq0.false);
      few = omega (arith, len, c.if-len-limit.false, c.most_bytes-limit.ensures.is);
      is = λ i. record { rows = rows_of c.args.width (rows_are c i) (bytes_are c i); width = c.args.width };
    }
