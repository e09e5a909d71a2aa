-- The text of a check has bytes.
use Rattle.std.proofs.Common.{◌≡◌, ℕ, ◌*◌, ◌<◌, ◌/◌, List, [], ◌∷◌, ◌++◌, length, codes, refl, arith}
use Rattle.std.specs.Prelude.{decimal}
use Rattle.wire_frames.specs.declared.scheme.Scheme.TheVariants.{Shamir}
use Rattle.wire_frames.specs.Sizes.{answer_len, query_len}
use Rattle.list_catalog.specs.Facts.{Facts}
use Rattle.list_tool.specs.CheckText.{check_text, count_lines, look_up_lines, mean_line, serve_line}

begins : (xs ys : List ℕ) → 0 < length xs → 0 < length (xs ++ ys)
begins [] ys some = absurd (omega (arith, some))
begins (x ∷ xs) ys some = omega arith

pub check_text_has_bytes : (f : Facts) (fullest : ℕ) (database : List ℕ) → 0 < length (check_text f fullest database)
unfolding check_text count_lines
check_text_has_bytes f fullest database =
    let eight : length (codes "entries ") ≡ 8 = refl in
    let counts = count_lines f.entries fullest in
    let mean = mean_line (f.entries * 10 / f.rows) in
    let sizes = look_up_lines (query_len Shamir 1 f.rows) (answer_len 1 f.width) in
    begins ((counts ++ mean) ++ sizes) (serve_line database f.width) (begins (counts ++ mean) sizes (begins counts mean
    (begins (codes "entries ") (decimal f.entries ++ (codes "\nfullest row " ++ (decimal fullest ++ codes "\n"))) (omega (arith, eight)))))
