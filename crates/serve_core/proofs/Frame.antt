-- The frame of an answer, in its two parts.
use Rattle.std.proofs.Common.{◌≡◌, ℕ, ◌-◌, List, ◌++◌, length, take, drop, ◌∙◌, ap, ap₂, arith, length-drop}
use Rattle.std.proofs.lemmas.List.{append-nil, drop_all, take_at}
use borrow.Rule.Slice.PartMut.{put_mid}
use Rattle.wire_frames.specs.declared.sizes.TheConstants.{FRAME_HEADER_LEN}

-- the header was written at the start of a frame, and the payload behind it
pub two_parts : (header rest frame payload : List ℕ) → length header ≡ FRAME_HEADER_LEN → frame ≡ header ++ rest
    → put_mid FRAME_HEADER_LEN (length frame - FRAME_HEADER_LEN) frame payload ≡ header ++ payload
two_parts header rest frame payload header_size frame_is =
    ap₂ (λ (a b : List ℕ). a ++ (payload ++ b))
    (ap (take FRAME_HEADER_LEN) frame_is ∙ take_at header rest FRAME_HEADER_LEN header_size)
    (drop_all (length frame - FRAME_HEADER_LEN) (drop FRAME_HEADER_LEN frame) (omega (arith, length-drop FRAME_HEADER_LEN frame)))
    ∙ ap (λ (l : List ℕ). header ++ l) (append-nil payload)
