use Rattle.std.proofs.Common.{◌≡◌, ◌+◌, ◌-◌, ◌*◌, ◌≤◌, ℕ, List, sym, ap, ap₂, subst, length, rules, ◌∙◌, arith, length-append, length-drop}
use Rattle.std.specs.List.{slice_range}
use Rattle.std.proofs.Math.Nat.{mul-le-mul_right}
use Rattle.std.proofs.lemmas.List.{length-take-le}
use Rattle.port_trait.specs.Number.{share_file}
use Rattle.port_trait.proofs.Cells.{at_err, touches_more}
use Rattle.share_bytes.specs.Share.{share}
use Rattle.share_bytes.proofs.Shares.{length-share, length-slice}
use Rattle.share_files.specs.Sharing.{CutsOff, GivesShare, Sharing}
use Rattle.share_files.proofs.Pieces.{piece_given, piece_cut, no_piece_given, all_pieces_given}
use Rattle.share_files.proofs.splitting.give_share.Goals as goal

-- the coins of a piece
coins_of_piece : (bytes coins : List ℕ) (each t tau at n : ℕ) → each ≡ tau → t ≡ tau → length coins ≡ length bytes * tau
    → at + n ≤ length bytes → length (slice_range coins (at * each) ((at + n) * each)) ≡ length (slice_range bytes at (at + n)) * t
coins_of_piece bytes coins each t tau at n is t_is all within =
    let over : (at + n) * tau ≤ length bytes * tau = mul-le-mul_right tau within in
    let spread : at * tau + n * tau ≡ (at + n) * tau = grind arith in
    let long = length-slice coins (at * tau) (n * tau) (omega (arith, over, spread, all)) in
    ap (λ (e : ℕ). length (slice_range coins (at * e) ((at + n) * e))) is
    ∙ ap (λ (end : ℕ). length (slice_range coins (at * tau) end)) (sym spread)
    ∙ long
    ∙ ap₂ ◌*◌ (sym (length-slice bytes at n within)) (sym t_is)

-- what comes before a place takes no more than all
fits_all : (place each tau len : ℕ) (coins : List ℕ) → each ≡ tau → length coins ≡ len * tau → place ≤ len → place * each ≤ length coins
fits_all place each tau len coins is all within =
    let over : place * tau ≤ len * tau = mul-le-mul_right tau within in
    subst (λ (e : ℕ). place * e ≤ length coins) (sym is) (omega (arith, over, all))

pub pieces-smaller : goal.pieces-smaller
pieces-smaller g c = omega (arith, c.pieces-test.true, c.min.ensures, c.pieces.invariant.size, c.requires.room)

pub overflow_mul-at : goal.overflow_mul-at
overflow_mul-at g c =
    let few = fits_all c.pieces.at c.from-each.result c.sharing.inside.tau _ c.sharing.inside.coins.now c.from-each.ensures c.sharing.invariant.enough c.pieces.invariant.within in
    omega (arith, few)

pub overflow_mul-end : goal.overflow_mul-end
overflow_mul-end g c =
    let few = fits_all (c.pieces.at + c.min.result) c.from-each.result c.sharing.inside.tau _ c.sharing.inside.coins.now
    c.from-each.ensures c.sharing.invariant.enough (omega (arith, c.min.ensures, c.pieces.invariant.within)) in
    omega (arith, few)

pub slice_bounds-share_into-count-in-pieces : goal.slice_bounds-share_into-count-in-pieces
slice_bounds-share_into-count-in-pieces g c = mul-le-mul_right c.from-each.result (omega arith)

pub slice_bounds-share_into-end-in-pieces : goal.slice_bounds-share_into-end-in-pieces
slice_bounds-share_into-end-in-pieces g c =
    fits_all (c.pieces.at + c.min.result) c.from-each.result c.sharing.inside.tau _ c.sharing.inside.coins.now
    c.from-each.ensures c.sharing.invariant.enough (omega (arith, c.min.ensures, c.pieces.invariant.within))

pub slice_bounds-share_into-start-in-pieces : goal.slice_bounds-share_into-start-in-pieces
slice_bounds-share_into-start-in-pieces g c = mul-le-mul_right c.from-each.result (omega arith)

pub share_into-requires-clause-coins : goal.share_into-requires-clause-coins
share_into-requires-clause-coins g c =
    coins_of_piece c.sharing.inside.bytes.now c.sharing.inside.coins.now c.from-each.result c.from.result c.sharing.inside.tau
    c.pieces.at c.min.result c.from-each.ensures c.from.ensures c.sharing.invariant.enough
    (omega (arith, c.min.ensures, c.pieces.invariant.within))

pub share_into-requires-clause-room : goal.share_into-requires-clause-room
share_into-requires-clause-room g c =
    let size = length-slice c.sharing.inside.bytes.now c.pieces.at c.min.result (omega (arith, c.min.ensures, c.pieces.invariant.within)) in
    let room = length-take-le (c.pieces.at + c.min.result - c.pieces.at) c.pieces.room (omega (arith, c.min.ensures)) in
    omega (arith, size, room)

pub pieces-init : goal.pieces-init
pieces-init g c = record {
  within = search rules;
  size = search rules;
  so_far = no_piece_given c.sharing.inside.bytes.now c.sharing.inside.coins.now c.sharing.inside.tau c.args.index (share_file c.args.index) (g.P.Ports.world c.args.ports.now);
  others = search rules;
}

pub returns-in_err-write_all-clause-failed : goal.returns-in_err-write_all-clause-failed
returns-in_err-write_all-clause-failed g c =
    let old = g.P.Ports.world c.args.ports.now in
    let mid = g.P.Ports.world c.pieces.ports in
    let new = g.P.Ports.world c.write_all.new.ports in
    let at = c.pieces.at in
    let n = c.min.result in
    let bytes = c.sharing.inside.bytes.now in
    let coins = c.sharing.inside.coins.now in
    let a = c.args.index in
    let fits : at + n ≤ length bytes = omega (arith, c.min.ensures, c.pieces.invariant.within) in
    let made = c.share_into.ensures
    ∙ ap₂ (λ (e t : ℕ). share (slice_range bytes at (at + n)) (slice_range coins (at * e) ((at + n) * e)) t a) c.from-each.ensures c.from.ensures in
    at_err c.from_residual.result
    (subst (λ (s : Sharing). CutsOff s a old new) c.sharing.view_is
    (piece_cut bytes coins c.share_into.new.out c.sharing.inside.tau a (share_file a) at n old mid new fits made
    c.pieces.invariant.so_far c.in_err-write_all.ensures.failed))

pub pieces-preserved : goal.pieces-preserved
pieces-preserved g c =
    let at = c.pieces.at in
    let n = c.min.result in
    let bytes = c.sharing.inside.bytes.now in
    let coins = c.sharing.inside.coins.now in
    let a = c.args.index in
    let fits : at + n ≤ length bytes = omega (arith, c.min.ensures, c.pieces.invariant.within) in
    let made = c.share_into.ensures
    ∙ ap₂ (λ (e t : ℕ). share (slice_range bytes at (at + n)) (slice_range coins (at * e) ((at + n) * e)) t a) c.from-each.ensures c.from.ensures in
    let long : length c.share_into.new.out ≡ n = ap length made ∙ length-share _ _ c.sharing.inside.tau a ∙ length-slice bytes at n fits in
    record {
      within = fits;
      size = simp (length-append, length-drop) (omega (arith, long, c.min.ensures, c.pieces.invariant.size));
      so_far = piece_given bytes coins c.share_into.new.out c.sharing.inside.tau a (share_file a) at n
          (g.P.Ports.world c.args.ports.now) (g.P.Ports.world c.pieces.ports) (g.P.Ports.world c.write_all.new.ports)
          fits made c.pieces.invariant.so_far c.in_ok-write_all.ensures.ok;
      others = touches_more _ _ _ _ c.pieces.invariant.others c.write_all.ensures.others;
    }

pub returns-clause-ok : goal.returns-clause-ok
returns-clause-ok g c =
    let old = g.P.Ports.world c.args.ports.now in
    let new = g.P.Ports.world c.pieces.ports in
    subst (λ (s : Sharing). GivesShare s c.args.index old new) c.sharing.view_is
    (all_pieces_given c.sharing.inside.bytes.now c.sharing.inside.coins.now c.sharing.inside.tau c.args.index (share_file c.args.index)
    c.pieces.at old new (omega (arith, c.pieces-test.false, c.pieces.invariant.within)) c.pieces.invariant.so_far)

pub returns-in_err-write_all-clause-others : goal.returns-in_err-write_all-clause-others
returns-in_err-write_all-clause-others g c = touches_more _ _ _ _ c.pieces.invariant.others c.write_all.ensures.others

pub returns-clause-others : goal.returns-clause-others
returns-clause-others g c = c.pieces.invariant.others
