use Rattle.std.proofs.Common.{◌≡◌, ◌-◌, ◌*◌, get_or}
use Rattle.chor_xor.specs.Bitmap.{size_of}
use Rattle.wire_frames.specs.Turns.{in_turn, piece}
use Rattle.privacy_law.specs.Partner.{partner_xor}
use Rattle.privacy_law.proofs.lists.partner_xor_list.Given as goal

-- the partners for the blocks so far
abbrev pub invariant-loop-i : goal.invariant-loop-i
invariant-loop-i l = l.changed.items
    ≡ in_turn l.i (λ i. partner_xor (piece ((l.n - 1) * size_of l.r) i l.coins) l.n l.r l.left_out (get_or l.b i 0) (get_or l.b2 i 0))
