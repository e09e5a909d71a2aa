-- What is written of a database that is its catalog's.
use Rattle.std.specs.Prelude.{ℕ, ◌*◌, ◌/◌, ◌%◌, List, ◌++◌, codes, decimal}
use Rattle.wire_frames.specs.Sizes.{answer_len, query_len}
use Rattle.wire_frames.specs.declared.scheme.Scheme.TheVariants.{Shamir}
use Rattle.list_catalog.specs.Facts.{Facts}

-- how many entries there are, and how many of them the fullest row has
unfoldable pub count_lines : ℕ → ℕ → List ℕ
count_lines entries fullest = codes "entries " ++ (decimal entries ++ (codes "\nfullest row " ++ (decimal fullest ++ codes "\n")))

-- how many entries a row has in the mean, in tenths
unfoldable pub mean_line : ℕ → List ℕ
mean_line tenths = codes "mean row " ++ (decimal (tenths / 10) ++ (codes "." ++ (decimal (tenths % 10) ++ codes "\n")))

-- how many bytes one look-up sends to each server, and how many come from each
unfoldable pub look_up_lines : ℕ → ℕ → List ℕ
look_up_lines up down = codes "bytes up " ++ (decimal up ++ (codes "\nbytes down " ++ (decimal down ++ codes "\n")))

-- the line that serves the file of this name
unfoldable pub serve_line : List ℕ → ℕ → List ℕ
serve_line database width =
    codes "pir serve --database " ++ (database ++ (codes " --width " ++ (decimal width ++ codes " --conns COUNT --listen ADDRESS\n")))

-- all of it, where the fullest row has so many entries
unfoldable pub check_text : Facts → ℕ → List ℕ → List ℕ
check_text f fullest database =
    ((count_lines f.entries fullest ++ mean_line (f.entries * 10 / f.rows)) ++ look_up_lines (query_len Shamir 1 f.rows) (answer_len 1 f.width))
    ++ serve_line database f.width
