-- Usable answers: how long their payloads are, and which frames are usable.
use Rattle.std.proofs.Common.{◌≡◌, ◌∙◌, ℕ, ◌*◌, ◌&&◌, Bool, true, false, cond, nat_eq, List, ◌++◌, length, take, drop, None, Some}
use Rattle.std.proofs.Common.{bytes_eq, refl, ap, ap₂, arith, eqb-true, length-append}
use Rattle.std.proofs.Math.Seq.{drop-append_seam, take-append_seam}
use Rattle.std.proofs.lemmas.Bool.{and_parts, eq-eqb}
use Rattle.std.proofs.lemmas.List.{length-drop}
use Rattle.std.proofs.lemmas.Slice.Eq.{bytes_eq-Decides}
use Rattle.wire_frames.specs.Sizes.{answer_len}
use Rattle.wire_frames.specs.declared.sizes.TheConstants.{FRAME_HEADER_LEN}
use Rattle.wire_frames.specs.declared.header.QueryHeader.{QueryHeader}
use Rattle.wire_frames.specs.Header.{answer_header}
use Rattle.wire_frames.specs.Answer.{usable}

-- a value that is there by a test is there where the test holds
when_some : (t : Bool) (x b : List ℕ) → cond t (Some x) None ≡ Some b → (t ≡ true) × (x ≡ b)
when_some true x b e = (refl, cc)
when_some false x b e = absurd (cc)

-- it has a byte for each column
pub usable_size : (bytes payload : List ℕ) (q : QueryHeader) → usable bytes q ≡ Some payload → length payload ≡ q.count * q.s
usable_size bytes payload q e =
    let parts = when_some (bytes_eq (take FRAME_HEADER_LEN bytes) (answer_header q 0) && nat_eq (length bytes) (answer_len q.count q.s)) (drop FRAME_HEADER_LEN bytes) payload e in
    let tests = and_parts (bytes_eq (take FRAME_HEADER_LEN bytes) (answer_header q 0)) (nat_eq (length bytes) (answer_len q.count q.s)) parts.0 in
    let size = eqb-true (length bytes) (answer_len q.count q.s) tests.1 in
    let rest = length-drop FRAME_HEADER_LEN bytes in
    let same = ap length parts.1 in
    omega (arith, size, rest, same)

-- the frame of status 0 with a byte for each column is usable
pub usable_frame : (payload : List ℕ) (q : QueryHeader) → length payload ≡ q.count * q.s → usable (answer_header q 0 ++ payload) q ≡ Some payload
usable_frame payload q size =
    let header = answer_header q 0 in
    let whole = length-append header payload in
    let begins : take FRAME_HEADER_LEN (header ++ payload) ≡ header = take-append_seam header payload in
    let rest : drop FRAME_HEADER_LEN (header ++ payload) ≡ payload = drop-append_seam header payload in
    let first : bytes_eq (take FRAME_HEADER_LEN (header ++ payload)) header ≡ true = (bytes_eq-Decides (take FRAME_HEADER_LEN (header ++ payload)) header).1 begins in
    let second : nat_eq (length (header ++ payload)) (answer_len q.count q.s) ≡ true
    = eq-eqb (length (header ++ payload)) (answer_len q.count q.s) (omega (arith, whole, size)) in
    ap (λ t. cond t (Some (drop FRAME_HEADER_LEN (header ++ payload))) None) (ap₂ ◌&&◌ first second) ∙ ap Some rest
