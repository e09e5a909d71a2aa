-- Places, where more bytes follow.
use Rattle.std.proofs.Common.{◌≡◌, ◌∙◌, ℕ, ◌+◌, ◌<◌, ◌≤◌, List, length, take, sym, ap, subst, arith}
use Rattle.std.proofs.lemmas.List.{take-take, take_all, length-take}
use Rattle.wire_frames.specs.Form.{Starts, StopsAt}
use Rattle.wire_frames.proofs.Prefixes.{starts-shorter, starts-whole}

-- the place at which a prefix stops is that of the whole
pub stops-prefix : {A : Type 0} (F : List ℕ → A → Type 0) (prefix bytes : List ℕ) (place : ℕ) → prefix ≡ take (length prefix) bytes → place < length prefix → StopsAt F prefix place → StopsAt F bytes place
stops-prefix F prefix bytes place is lt h =
    let size : length prefix ≤ length bytes = omega (arith, ap length is, length-take (length prefix) bytes) in
    let same : (n : ℕ) → n ≤ length prefix → take n prefix ≡ take n bytes = λ n le. ap (take n) is ∙ take-take n (length prefix) bytes le in
    record {
      within = omega arith;
      begins = subst (Starts F) (same place (omega arith)) h.begins;
      longest = λ n below within begins.
          h.longest (place + 1) (omega arith) (omega arith) (subst (Starts F) (sym (same (place + 1) (omega arith))) (starts-shorter F (place + 1) n bytes (omega arith) begins));
    }

-- bytes that stop before their end spell nothing
pub stops-none : {A : Type 0} (F : List ℕ → A → Type 0) (bytes : List ℕ) (place : ℕ) → StopsAt F bytes place → place < length bytes → (value : A) → F bytes value → ⊥
stops-none F bytes place h lt value whole =
    h.longest (length bytes) lt (omega arith) (subst (Starts F) (sym (take_all (length bytes) bytes (omega arith))) (starts-whole F bytes value whole))
