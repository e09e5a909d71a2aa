-- The verdict on the answers of a session.
use Rattle.std.specs.Prelude.{◌≡◌, ℕ, ◌+◌, ◌*◌, ◌<◌, ◌≤◌, ◌⊎◌, ⊤, List, [], ◌∷◌, length, map}
use Rattle.wire_frames.specs.declared.scheme.TheConstants.{SHAMIR, XOR}
use Rattle.wire_frames.specs.Answer.{block_len, Answer, answers}
use Rattle.wire_frames.specs.Session.{Transcript}
use Rattle.chor_xor.specs.Chosen.{combined}
use Rattle.column_lists.specs.Numbers.{cost}
use Rattle.column_lists.specs.declared.TheConstants.{MOST_COST}
use Rattle.block_decoder.specs.Agreed.{Lists}
use Rattle.block_decoder.specs.declared.verdict.Verdict.{Verdict}
use Rattle.block_decoder.specs.declared.verdict.Verdict.TheVariants.{Listed, TooFew, TooWeak, TooCostly}

-- fewer than h answers; else so weak an agreement that Johnson's bound says nothing of the blocks (Guruswami and Sudan
-- 1999); else more equations for a column than a list decoding takes; else the agreed blocks
abbrev pub IsDecided : List Answer → ℕ → ℕ → ℕ → Verdict → Type 0
IsDecided all width t h (TooFew k agree) = (k ≡ length all) × (agree ≡ h) × (length all < h)
IsDecided all width t h (TooWeak k degree agree) =
    (k ≡ length all) × (degree ≡ t) × (agree ≡ h) × (h ≤ length all) × (h * h ≤ length all * t)
IsDecided all width t h (TooCostly equations) =
    (equations ≡ cost (length all) t h) × (h ≤ length all) × (length all * t < h * h)
    × (MOST_COST < cost (length all) t h)
IsDecided all width t h (Listed blocks) =
    (h ≤ length all) × (length all * t < h * h) × (cost (length all) t h ≤ MOST_COST) × Lists blocks all width t h

-- the answers of fewer than n servers; else the sum of all is the one block (Chor, Goldreich, Kushilevitz and Sudan 1995)
abbrev pub IsCombined : List Answer → ℕ → ℕ → ℕ → Verdict → Type 0
IsCombined all width n h (TooFew k agree) = (k ≡ length all) × (agree ≡ h) × (length all < n)
IsCombined all width n h (TooWeak k degree agree) = ⊥
IsCombined all width n h (TooCostly equations) = ⊥
IsCombined all width n h (Listed blocks) =
    (n ≤ length all) × (blocks ≡ combined width (map (λ a. a.payload) all) ∷ [])

-- the same for the usable answers of a session
abbrev pub IsCombinedSession : Transcript → Verdict → Type 0
IsCombinedSession session =
    IsCombined (answers session) (block_len session.params) session.params.n session.params.h

-- the verdict on a session, by its usable answers: in Shamir's scheme, and in the XOR scheme
pub record IsVerdict (session : Transcript) (verdict : Verdict) : Type 0 where
  pub shamir : session.params.scheme ≡ SHAMIR
      → IsDecided (answers session) (block_len session.params) session.params.t session.params.h verdict
  pub xor : session.params.scheme ≡ XOR → IsCombinedSession session verdict

-- k answers are fewer than h, or their agreement is so weak that Johnson's bound says nothing, or the cost is too high
abbrev pub IsUnlisted : ℕ → ℕ → ℕ → Type 0
IsUnlisted k t h = (k < h) ⊎ (h * h ≤ k * t) ⊎ (MOST_COST < cost k t h)

-- the verdict on k answers where nothing is listed
abbrev pub IsRefusal : ℕ → ℕ → ℕ → Verdict → Type 0
IsRefusal k t h (TooFew n agree) = (n ≡ k) × (agree ≡ h) × (k < h)
IsRefusal k t h (TooWeak n degree agree) = (n ≡ k) × (degree ≡ t) × (agree ≡ h) × (h ≤ k) × (h * h ≤ k * t)
IsRefusal k t h (TooCostly equations) =
    (equations ≡ cost k t h) × (h ≤ k) × (k * t < h * h) × (MOST_COST < cost k t h)
IsRefusal k t h (Listed blocks) = ⊥

-- how many columns are interpolated at least: one for a listing, and all where it has a block
abbrev pub least_columns : ℕ → Verdict → ℕ
least_columns width (TooFew k agree) = 0
least_columns width (TooWeak k degree agree) = 0
least_columns width (TooCostly equations) = 0
least_columns width (Listed []) = 1
least_columns width (Listed (block ∷ blocks)) = width

-- how many coefficients are fixed at least: those of a polynomial where several blocks are listed, since a list proper was
-- made where their answers part
abbrev pub least_coefficients : ℕ → Verdict → ℕ
least_coefficients t (TooFew k agree) = 0
least_coefficients t (TooWeak k degree agree) = 0
least_coefficients t (TooCostly equations) = 0
least_coefficients t (Listed []) = 0
least_coefficients t (Listed (block ∷ [])) = 0
least_coefficients t (Listed (block ∷ other ∷ blocks)) = t + 1

-- the verdict lists one block, or none
abbrev pub ListsAtMostOne : Verdict → Type 0
ListsAtMostOne (TooFew k agree) = ⊥
ListsAtMostOne (TooWeak k degree agree) = ⊥
ListsAtMostOne (TooCostly equations) = ⊥
ListsAtMostOne (Listed blocks) = length blocks ≤ 1

-- a listing has so many blocks at most
abbrev pub ListsNoMoreThan : ℕ → Verdict → Type 0
ListsNoMoreThan most (TooFew k agree) = ⊤
ListsNoMoreThan most (TooWeak k degree agree) = ⊤
ListsNoMoreThan most (TooCostly equations) = ⊤
ListsNoMoreThan most (Listed blocks) = length blocks ≤ most
