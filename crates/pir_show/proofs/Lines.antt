-- The lines of servers, one after another.
use Rattle.std.proofs.Common.{◌≡◌, ℕ, ◌+◌, List, ◌++◌, sym, ap, add-one, append-nil}
use Rattle.wire_frames.specs.Session.{Transcript}
use Rattle.pir_show.specs.Text.{server_line, server_lines, told_of}

-- the lines of no server are none
pub none_yet : (t : Transcript) (xs : List ℕ) → xs ≡ xs ++ server_lines t 0
unfolding server_lines
none_yet t xs = sym (append-nil xs)

-- the lines of the first n servers, and the line of the next
pub one_more : (t : Transcript) (n : ℕ) → server_lines t n ++ server_line (n + 1) (told_of t (n + 1)) ≡ server_lines t (n + 1)
unfolding server_lines
one_more t n = sym (ap (λ m. server_lines t m) (add-one n))
