use Rattle.std.proofs.Common.{◌≡◌, ◌*◌, get_or}
use Rattle.wire_frames.specs.Turns.{in_turn, piece}
use Rattle.privacy_law.specs.Partner.{partner}
use Rattle.privacy_law.proofs.lists.partner_list.Given as goal

-- the partners for the blocks so far
abbrev pub invariant-loop-i : goal.invariant-loop-i
invariant-loop-i l = l.changed.items
    ≡ in_turn l.i (λ i. partner (piece (l.r * l.t) i l.coins) l.t l.coalition (get_or l.b i 0) (get_or l.b2 i 0))
