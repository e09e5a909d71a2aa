-- A share that is given to its file piece by piece.
use Rattle.std.proofs.Common.{◌≡◌, ◌∙◌, ℕ, ◌+◌, ◌*◌, ◌≤◌, List, ◌++◌, length, take, drop, sym, ap, subst}
use Rattle.std.specs.List.{slice_range}
use Rattle.std.proofs.lemmas.List.{take-append-drop}
use Rattle.port_trait.specs.World.{World}
use Rattle.port_trait.specs.Moves.{gave}
use Rattle.port_trait.specs.Whole.{FailsWithin}
use Rattle.port_trait.proofs.Cells.{gave-gave, fails_first, fails_next}
use Rattle.port_trait.proofs.Pieces.{gave_none}
use Rattle.share_bytes.specs.Share.{share}
use Rattle.share_bytes.proofs.Shares.{first_shares, first_shares_are, share_is, shares_none, shares_more}

-- the shares of the first m positions were given since w, and now the piece with those of the next n
module _ (bytes coins piece : List ℕ) (tau a p m n : ℕ) (w v u : World) (within : m + n ≤ length bytes)
    (made : piece ≡ share (slice_range bytes m (m + n)) (slice_range coins (m * tau) ((m + n) * tau)) tau a)
    (so_far : v.at p ≡ gave (first_shares bytes coins tau m a) (w.at p)) where
  -- the piece stands behind them
  joined : first_shares bytes coins tau m a ++ piece ≡ first_shares bytes coins tau (m + n) a
  joined = ap (λ (l : List ℕ). first_shares bytes coins tau m a ++ l) made ∙ shares_more bytes coins tau m n a within

  -- it was given whole
  pub piece_given : u.at p ≡ gave piece (v.at p) → u.at p ≡ gave (first_shares bytes coins tau (m + n) a) (w.at p)
  piece_given is =
      is ∙ ap (gave piece) so_far ∙ gave-gave (first_shares bytes coins tau m a) piece (w.at p)
      ∙ ap (λ (l : List ℕ). gave l (w.at p)) joined

  -- it was cut short, and so the share was
  pub piece_cut : FailsWithin p piece v u → FailsWithin p (share bytes coins tau a) w u
  piece_cut cut =
      let whole = share bytes coins tau a in
      let first : first_shares bytes coins tau m a ++ piece ≡ take (m + n) whole
      = joined ∙ first_shares_are bytes coins tau (m + n) a within in
      let there = subst (λ (l : List ℕ). FailsWithin p l w u) first (fails_next p (first_shares bytes coins tau m a) piece w v u so_far cut) in
      subst (λ (l : List ℕ). FailsWithin p l w u) (take-append-drop (m + n) whole) (fails_first p (take (m + n) whole) (drop (m + n) whole) w u there)

-- no piece was given so far
pub no_piece_given : (bytes coins : List ℕ) (tau a p : ℕ) (w : World) → w.at p ≡ gave (first_shares bytes coins tau 0 a) (w.at p)
no_piece_given bytes coins tau a p w = sym (gave_none (w.at p)) ∙ ap (λ (l : List ℕ). gave l (w.at p)) (shares_none bytes coins tau a)

-- all pieces were
pub all_pieces_given : (bytes coins : List ℕ) (tau a p n : ℕ) (w v : World) → n ≡ length bytes
    → v.at p ≡ gave (first_shares bytes coins tau n a) (w.at p) → v.at p ≡ gave (share bytes coins tau a) (w.at p)
all_pieces_given bytes coins tau a p n w v end is =
    is ∙ ap (λ (k : ℕ). gave (first_shares bytes coins tau k a) (w.at p)) end ∙ ap (λ (l : List ℕ). gave l (w.at p)) (share_is bytes coins tau a)
