-- The database of a list is written, and behind it the catalog.
use Rattle.std.proofs.Common.{◌≡◌, ◌∙◌, ℕ, ◌+◌, ◌<◌, List, ◌++◌, length, refl, ap, arith}
use Rattle.std.specs.Prelude.{codes, Option, None, Some, Ok, replicate, ◌-◌}
use Rattle.std.specs.List.{concat}
use Rattle.std.specs.Int.{w16, to_be_bytes}
use Rattle.std.proofs.lemmas.List.{length-append}
use Rattle.port_trait.specs.World.{Cell, World}
use Rattle.port_trait.specs.Number.{RECORD}
use Rattle.port_trait.specs.Moves.{gave, named}
use Rattle.key_table.specs.Rows.{Rows, row_bytes}
use Rattle.key_table.specs.Table.{framed, head_size}
use Rattle.std.specs.Fmt.{decimal}
use Rattle.list_catalog.specs.Facts.{Facts}
use Rattle.list_catalog.specs.Member.{name_of}
use Rattle.list_catalog.specs.Writing.{catalog_text, line}
use Rattle.list_catalog.specs.declared.member.Member.TheVariants.{Digest}
use Rattle.list_builds.specs.CatalogText.{CutsText, GivesText, catalog_port}
use Rattle.list_builds.specs.TableBytes.{WritesDatabase, WritesRows, first_rows, table_of}
use Rattle.list_builds.proofs.Carried.{cut_before, unwritten_before}
use Rattle.list_builds.proofs.TableBytes.{rows_split}

-- a row has bytes
row_has_bytes : (width : ℕ) (tag : List ℕ) (n : ℕ) (entries : List ℕ) → 0 < length (framed width tag n entries)
unfolding framed
row_has_bytes width tag n entries =
    let rest = entries ++ replicate (width - (head_size + length entries)) 0 in
    let two : length (to_be_bytes w16 n ++ rest) ≡ 2 + length rest = length-append (to_be_bytes w16 n) rest in
    omega (arith, length-append tag (to_be_bytes w16 n ++ rest), two)

-- a table with rows has bytes
pub table_has_bytes : (table : Rows) → 0 < table.rows → 0 < length (concat (table_of table))
table_has_bytes table some =
    let row = row_bytes table in
    let split = rows_split row 0 table.rows some in
    let first : 0 < length (row 0) = row_has_bytes table.width table.tag _ _ in
    omega (arith, ap length split.1, length-append (concat (first_rows row 0)) (row 0 ++ split.0), length-append (row 0) split.0, first)

-- a text that was given to the catalog's port, or cut short, counts from before
module _ (text : List ℕ) (w v u : World) where
  pub text_before : (name : Option (List ℕ)) → v.at (catalog_port name) ≡ w.at (catalog_port name) → GivesText name text v u → GivesText name text w u
  text_before None same h = h ∙ ap (gave text) same
  text_before (Some name) same h = h ∙ ap (λ (c : Cell). gave text (named name c)) same

  pub cut_text_before : (name : Option (List ℕ)) → v.at (catalog_port name) ≡ w.at (catalog_port name) → CutsText name text v u → CutsText name text w u
  cut_text_before None same h = cut_before (catalog_port None) w v u same text h
  cut_text_before (Some name) same h = unwritten_before (catalog_port (Some name)) w v u same name text h

-- the database's file was opened by this name
module _ (name : List ℕ) (rows : List (List ℕ)) (w v u : World) (opened : v.at RECORD ≡ named name (w.at RECORD)) where
  -- it took all rows
  pub database_whole : (hash : List ℕ) → WritesRows rows (Ok hash) v u → WritesDatabase name rows (Ok hash) w u
  database_whole hash h = (h.0 ∙ ap (gave (concat rows)) opened, h.1)

-- what begins with a text that has bytes has bytes
begins : (a b : List ℕ) → 0 < length a → 0 < length (a ++ b)
begins a b some = omega (arith, length-append a b, some)

-- the text of a catalog has bytes
pub text_has_bytes : (f : Facts) → 0 < length (catalog_text f)
unfolding catalog_text
text_has_bytes f =
    let six : length (name_of Digest) ≡ 6 = refl in
    begins (line Digest (decimal f.digest)) _
    (begins (name_of Digest) (codes " = " ++ (decimal f.digest ++ codes "\n")) (omega (arith, six)))
