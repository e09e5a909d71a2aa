use Rattle.std.proofs.Common.{List, ℕ, sym, subst}
use Rattle.gf256.specs.Rows.{AreLanes}
use Rattle.shamir_share.specs.Lanes.{sorted_place}
use Rattle.shamir_share.proofs.LanePlaces.{places_are}
use Rattle.shamir_share.proofs.places.places_of.Goals as goal

pub returns : goal.returns
returns c =
    subst (λ (xs : List ℕ). AreLanes 16 xs (sorted_place c.args.width c.args.coins) 0) (sym c.sixteen_at.ensures)
    (places_are c.args.width c.args.coins c.requires.width c.requires.some c.requires.few)
