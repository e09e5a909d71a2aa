-- What holds of prefixes in any form.
use Rattle.std.proofs.Common.{◌≡◌, ℕ, suc, ◌≤◌, List, [], ◌++◌, length, take, drop, All, sym, subst, ap, ◌∙◌, arith, append_assoc}
use Rattle.std.proofs.Math.Seq.{drop-append_seam}
use Rattle.std.proofs.lemmas.List.Elements.{All-drop}
use Rattle.std.specs.Prelude.{Result, Err, IsErrAnd}
use Rattle.std.proofs.lemmas.List.{append-nil, take-append-drop, take-take}
use Rattle.std.proofs.lemmas.Result.{err_from_is_err_and}
use Rattle.wire_frames.specs.Form.{Starts, StopsAt, Reads}

-- what holds of each element holds of each behind some
pub All-behind : {X : Type 0} (P : X → Type 0) (xs ys : List X) → All P (xs ++ ys) → All P ys
All-behind P xs ys h = subst (All P) (drop-append_seam xs ys) (All-drop P (length xs) (xs ++ ys) h)

-- a prefix of a right prefix is right
pub starts-prefix : {A : Type 0} (F : List ℕ → A → Type 0) (prefix more : List ℕ) → Starts F (prefix ++ more) → Starts F prefix
starts-prefix F prefix more s = record {
  rest = more ++ s.rest;
  value = s.value;
  whole = subst (λ (bytes : List ℕ). F bytes s.value) (append_assoc prefix more s.rest) s.whole;
}

-- what begins a spelling goes on doing so when its end is cut off
pub starts-shorter : {A : Type 0} (F : List ℕ → A → Type 0) (m n : ℕ) (l : List ℕ) → m ≤ n → Starts F (take n l) → Starts F (take m l)
starts-shorter F m n l h s =
    let split : take n l ≡ take m l ++ drop m (take n l) = sym (take-append-drop m (take n l)) ∙ ap (λ (xs : List ℕ). xs ++ drop m (take n l)) (take-take m n l h) in
    starts-prefix F (take m l) (drop m (take n l)) (subst (Starts F) split s)

-- a value's whole spelling begins it
pub starts-whole : {A : Type 0} (F : List ℕ → A → Type 0) (bytes : List ℕ) (value : A) → F bytes value → Starts F bytes
starts-whole F bytes value h = record { rest = []; value = value; whole = subst (λ (b : List ℕ). F b value) (sym (append-nil bytes)) h }

-- a prefix that is right, where one byte more is not
pub stops-at : {A : Type 0} (F : List ℕ → A → Type 0) (bytes : List ℕ) (place : ℕ) → place ≤ length bytes → Starts F (take place bytes)
    → (suc place ≤ length bytes → Starts F (take (suc place) bytes) → ⊥) → StopsAt F bytes place
stops-at F bytes place within begins next = record {
  within = within;
  begins = begins;
  longest = λ n more inside s. next (omega arith) (starts-shorter F (suc place) n bytes (omega arith) s);
}

-- what a `?` hands on of a reading
pub reads-exit : {A : Type 0} {F : List ℕ → A → Type 0} {bytes : List ℕ} (r : Result A ℕ) (place : ℕ) → IsErrAnd r (λ e. e ≡ place) → Reads F bytes (Err place) → Reads F bytes r
reads-exit {A} {F} {bytes} r place exit h =
    let is = err_from_is_err_and r exit in
    subst (Reads F bytes) (sym (is.1 ∙ ap (λ (n : ℕ). Err n) is.2)) h
