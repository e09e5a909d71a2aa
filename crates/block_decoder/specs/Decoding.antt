-- What is decoded, and its two counters.
use Rattle.std.specs.Prelude.{ℕ, List, length}
use Rattle.wire_frames.specs.Answer.{Answer}
use Rattle.block_decoder.specs.Numbers.{most_columns, most_nodes}
use Rattle.block_decoder.specs.Report.{Agreement, IsReport}
use Rattle.block_decoder.specs.declared.decoding.Decoding.{Decoding}

-- these answers, of so many bytes, of which h are to agree with polynomials of degree at most t
abbrev pub decoding : List Answer → ℕ → ℕ → ℕ → Decoding
decoding answers width t h = record { answers = answers; width = width; degree = t; agreement = h }

-- how many columns are decoded at most
abbrev pub most_columns_of : Decoding → ℕ
most_columns_of decoding = most_columns (length decoding.answers) decoding.degree decoding.agreement decoding.width

-- how many coefficients are fixed at most in all of them
abbrev pub most_nodes_of : Decoding → ℕ
most_nodes_of decoding = most_nodes (length decoding.answers) decoding.degree decoding.agreement decoding.width

-- every agreement of the answers, each once and ascending
abbrev pub IsReportOf : Decoding → List Agreement → Type 0
IsReportOf decoding agreements =
    IsReport decoding.answers decoding.width decoding.degree decoding.agreement agreements

-- how many columns were decoded, and how many coefficients fixed in looking for their polynomials
pub record Counters : Type 0 where
  pub cols : ℕ
  pub nodes : ℕ

-- the counters at these numbers
abbrev pub counters : ℕ → ℕ → Counters
counters cols nodes = record { cols = cols; nodes = nodes }
