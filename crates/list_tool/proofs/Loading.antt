-- A file that is opened and read.
use Rattle.std.proofs.Common.{◌≡◌, ◌∙◌, inr, ℕ, ◌+◌, List, length, take, sym, ap, subst, arith}
use Rattle.std.specs.Prelude.{Option, Some, None, IfSome, Result, Ok, Err}
use Rattle.std.proofs.lemmas.List.{length-take-le, take_all}
use Rattle.port_trait.specs.World.{Cell, World}
use Rattle.port_trait.specs.Moves.{Came as CameIn, RoseOnce, counted, named, took}
use Rattle.port_trait.specs.Whole.{IsPrefix}
use Rattle.list_catalog.specs.Facts.{Facts}
use Rattle.list_catalog.specs.declared.TheConstants.{MOST_CATALOG}
use Rattle.list_tool.specs.Loading.{Came, HasText, LoadsCatalog, LoadsOpened, ReadsText}
use Rattle.list_tool.specs.declared.fault.LoadFault.{LoadFault}
use Rattle.list_tool.specs.declared.fault.LoadFault.TheVariants.{Memory, ReadFault, Refused}

-- the bytes that came are the first of those that were held
came_first : (count : ℕ) (before after : List ℕ) (o : Option (List ℕ)) → length (take count after) ≡ count → IfSome o (CameIn count before after)
    → IfSome o (IsPrefix (take count after))
came_first count before after None size came = tt
came_first count before after (Some held) size came = record {
  there = omega (arith, size, came.there);
  bytes = came.bytes ∙ ap (λ n. take n held) (sym size);
}

-- and all of them, where no more were held
came_all : (count : ℕ) (before after : List ℕ) (o : Option (List ℕ)) → IfSome o (CameIn count before after) → IfSome o (λ held. length held ≡ count)
    → IfSome o (λ held. take count after ≡ held)
came_all count before after None came size = tt
came_all count before after (Some held) came size = came.bytes ∙ take_all count held (omega (arith, size))

-- what came is the file, or as much of it as there was room for
pub has_text : (p count : ℕ) (before after : List ℕ) (v u : World) → length after ≡ length before → length before ≡ MOST_CATALOG + 1
    → Came p count before after v u → HasText (take count after) (v.at p) (u.at p)
has_text p count before after v u same room came =
    let size : length (take count after) ≡ count = length-take-le count after (omega (arith, came.hands.fits, same)) in
    record {
      cell = came.hands.cell ∙ ap (λ n. took n (v.at p)) (sym size);
      prefix = came_first count before after (v.at p).holds size came.hands.told;
      all = λ few. came_all count before after (v.at p).holds came.hands.told (came.all (omega (arith, few, size, room)));
    }

-- it is a catalog, or none
pub text_loaded : (p : ℕ) (text : List ℕ) (result : Result Facts LoadFault) (v u : World) → HasText text (v.at p) (u.at p) → ReadsText text result
    → LoadsOpened p result v u
text_loaded p text (Ok facts) v u has reads = (text, has, reads)
text_loaded p text (Err (Refused fault)) v u has reads = (text, has, reads)
text_loaded p text (Err ReadFault) v u has reads = absurd reads
text_loaded p text (Err Memory) v u has reads = tt

-- the port was opened by this name before
module _ (p : ℕ) (name : List ℕ) (w v u : World) (opened : v.at p ≡ named name (w.at p)) where
  named_text : (text : List ℕ) → HasText text (v.at p) (u.at p) → HasText text (named name (w.at p)) (u.at p)
  named_text text has = subst (λ (c : Cell). HasText text c (u.at p)) opened has

  pub loaded : (result : Result Facts LoadFault) → LoadsOpened p result v u → LoadsCatalog p name result w u
  loaded (Ok facts) found = (found.0, named_text found.0 found.1, found.2)
  loaded (Err (Refused fault)) found = (found.0, named_text found.0 found.1, found.2)
  loaded (Err ReadFault) cut = record {
    n = cut.after.n;
    fewer = cut.fewer;
    cell = inr (cut.after.cell ∙ ap (λ (c : Cell). counted (u.at p).faults (took cut.after.n c)) opened);
    rose = subst (λ (c : Cell). RoseOnce c.faults (u.at p).faults) opened cut.after.rose;
  }
  loaded (Err Memory) found = tt
