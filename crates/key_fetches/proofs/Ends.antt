-- The text of a look-up's end, by how it ends.
use Rattle.std.proofs.Common.{◌≡◌, List, ℕ, Option, Some, None, sym, ap, ap₂}
use Rattle.block_decoder.specs.Text.{text}
use Rattle.block_decoder.specs.declared.verdict.Verdict.{Verdict}
use Rattle.key_fetches.specs.Listed.{Ended}
use Rattle.key_fetches.specs.Text.{absent_line, end_text, found_line, text_by}

-- with a verdict
pub verdict_text : (ended : Ended) (verdict : Verdict) → ended.unlisted ≡ Some verdict → text verdict ≡ end_text ended
verdict_text ended verdict is = sym (ap (λ (u : Option Verdict). text_by u ended.found) is)

-- with a row
pub found_text : (ended : Ended) (row : List ℕ) → ended.unlisted ≡ None → ended.found ≡ Some row → found_line row ≡ end_text ended
found_text ended row none is = sym (ap₂ (λ (u : Option Verdict) (f : Option (List ℕ)). text_by u f) none is)

-- with none
pub absent_text : (ended : Ended) → ended.unlisted ≡ None → ended.found ≡ None → absent_line ≡ end_text ended
absent_text ended none is = sym (ap₂ (λ (u : Option Verdict) (f : Option (List ℕ)). text_by u f) none is)
