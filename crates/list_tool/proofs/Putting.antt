-- Texts that are put behind what is pending, one after another.
use Rattle.std.proofs.Common.{◌≡◌, ◌∙◌, ℕ, ◌+◌, ◌<◌, List, [], ◌++◌, length, take, get_or, append_assoc, refl, sym, ap, subst}
use Rattle.std.specs.Prelude.{flat_map, Result, Ok, Err}
use Rattle.std.proofs.lemmas.List.{append-nil}
use Rattle.port_trait.specs.World.{World}
use Rattle.port_trait.specs.Number.{OUTPUT}
use Rattle.port_trait.specs.Moves.{gave}
use Rattle.port_trait.specs.Whole.{FailsWithin}
use Rattle.port_trait.specs.Written.{Written}
use Rattle.port_trait.specs.declared.port.Failed.{Failed}
use Rattle.port_trait.proofs.Cells.{fails_first, fails_next, gave-gave}
use Rattle.port_trait.proofs.Pieces.{gave_none, written_next}
use Rattle.block_decoder.proofs.TextLines.{flat_map-pieces, flat_map-take_more}
use Rattle.list_tool.specs.Pending.{HasPut, Puts}

-- nothing was put
pub put_none : (pending : List ℕ) (w : World) → HasPut (pending ++ []) pending w w
put_none pending w = record { given = []; cell = sym (gave_none (w.at OUTPUT)); are = sym (append-nil pending) }

-- a text was put, for which there is room
pub put_kept : (text pending : List ℕ) (w : World) → HasPut (pending ++ text) (pending ++ text) w w
put_kept text pending w = record { given = []; cell = sym (gave_none (w.at OUTPUT)); are = refl }

-- what was pending was given, and the text is pending
pub put_behind : (text pending : List ℕ) (w v : World) → v.at OUTPUT ≡ gave pending (w.at OUTPUT) → HasPut (pending ++ text) text w v
put_behind text pending w v is = record { given = pending; cell = is; are = refl }

-- what was pending was given, and then the text, or a part of it
pub put_through : (text pending : List ℕ) (r : Result (Unit {0}) Failed) (w v u : World) → v.at OUTPUT ≡ gave pending (w.at OUTPUT)
    → Written OUTPUT text r v u → Puts text r pending [] w u
put_through text pending (Ok x) w v u is h = record {
  given = pending ++ text;
  cell = written_next OUTPUT pending text (Ok x) w v u is h;
  are = append-nil (pending ++ text);
}
put_through text pending (Err e) w v u is h = fails_next OUTPUT pending text w v u is h

-- a text was cut short, and so what was to come behind it
pub cut_first : (a b before : List ℕ) (w u : World) → FailsWithin OUTPUT (before ++ a) w u → FailsWithin OUTPUT (before ++ (a ++ b)) w u
cut_first a b before w u cut =
    subst (λ (text : List ℕ). FailsWithin OUTPUT text w u) (append_assoc before a b) (fails_first OUTPUT (before ++ a) b w u cut)

-- a text was put, and then another one
module _ (a b before mid : List ℕ) (w v u : World) (first : HasPut (before ++ a) mid w v) where
  both : first.given ++ (mid ++ b) ≡ before ++ (a ++ b)
  both = sym (append_assoc first.given mid b) ∙ ap (λ (text : List ℕ). text ++ b) first.are ∙ append_assoc before a b

  pub put_both : (after : List ℕ) → HasPut (mid ++ b) after v u → HasPut (before ++ (a ++ b)) after w u
  put_both after h = record {
    given = first.given ++ h.given;
    cell = h.cell ∙ ap (gave h.given) first.cell ∙ gave-gave first.given h.given (w.at OUTPUT);
    are = append_assoc first.given h.given after ∙ ap (λ (text : List ℕ). first.given ++ text) h.are ∙ both;
  }

  -- or a part of it
  pub put_cut : FailsWithin OUTPUT (mid ++ b) v u → FailsWithin OUTPUT (before ++ (a ++ b)) w u
  put_cut cut = subst (λ (text : List ℕ). FailsWithin OUTPUT text w u) both (fails_next OUTPUT first.given (mid ++ b) w v u first.cell cut)

  pub put_next : (r : Result (Unit {0}) Failed) (after : List ℕ) → Puts b r mid after v u → Puts (a ++ b) r before after w u
  put_next (Ok x) after h = put_both after h
  put_next (Err e) after h = put_cut h

-- of the texts f x the first n were put, and then the next one, or a part of it
module _ {X : Type 0} (f : X → List ℕ) (xs : List X) (n : ℕ) (next : X) (before mid : List ℕ) (w v u : World) (within : n < length xs)
    (so_far : HasPut (before ++ flat_map f (take n xs)) mid w v) where
  -- it was put
  pub text_put : (after : List ℕ) → HasPut (mid ++ f (get_or xs n next)) after v u → HasPut (before ++ flat_map f (take (n + 1) xs)) after w u
  text_put after h =
      subst (λ (text : List ℕ). HasPut (before ++ text) after w u) (sym (flat_map-take_more f xs n next within))
      (put_both (flat_map f (take n xs)) (f (get_or xs n next)) before mid w v u so_far after h)

  -- it was cut short, and so all of them were
  pub text_cut : FailsWithin OUTPUT (mid ++ f (get_or xs n next)) v u → FailsWithin OUTPUT (before ++ flat_map f xs) w u
  text_cut cut =
      subst (λ (text : List ℕ). FailsWithin OUTPUT (before ++ text) w u) (sym (flat_map-pieces f xs n next within))
      (put_cut (flat_map f (take n xs)) (f (get_or xs n next) ++ _) before mid w v u so_far (cut_first (f (get_or xs n next)) _ mid v u cut))

-- what is pending of a text is given at the end
pub put_given : (text pending : List ℕ) (r : Result (Unit {0}) Failed) (w v u : World) → HasPut text pending w v → Written OUTPUT pending r v u
    → Written OUTPUT text r w u
put_given text pending r w v u put h =
    subst (λ (whole : List ℕ). Written OUTPUT whole r w u) put.are (written_next OUTPUT put.given pending r w v u put.cell h)
