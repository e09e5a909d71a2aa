-- A workload that comes from a number: a database, the coins of a fetch, and what each server answers.
use Rattle.std.specs.Prelude.{ℕ, ◌+◌, ◌-◌, ◌*◌, ◌%◌, ◌≤◌, List, [], map, slice_index_or, nat_le, if◌then◌else◌}
use Rattle.std.specs.List.{range_with_len}
use Rattle.gf256.specs.Product.{product}
use Rattle.shamir_share.specs.Query.{query}
use Rattle.wire_frames.specs.Answer.{Answer}
use Rattle.wire_frames.specs.Limits.{IsInRange}
use Rattle.wire_frames.specs.Version.{number_of}
use Rattle.drawn_workload.specs.declared.order.TheConstants.{NUMBER_LEN}
use Rattle.drawn_workload.specs.declared.order.Workload.{Workload}
use Rattle.wire_frames.specs.declared.scheme.TheConstants.{SHAMIR}
use Rattle.wire_frames.specs.declared.version.Version.TheVariants.{Single}
use Rattle.block_matrix.specs.Database.{Database, database}
use Rattle.drawn_workload.specs.Stream.{drawn}

-- its numbers are those of a session of Shamir's scheme, and of the servers some may lie
pub record IsWorkload (w : Workload) : Type 0 where
  pub numbers : IsInRange (record {
    version = number_of Single;
    scheme = SHAMIR;
    t = w.degree;
    h = w.agree;
    n = w.servers;
    count = 1;
    session = 0;
    r = w.rows;
    s = w.width;
  })
  pub liars : w.liars ≤ w.servers

-- the stream of the seed gives the database, then the number of a session, then the coins, then the lies

-- the database: the first rows * width bytes, row after row
abbrev pub database_of : Workload → Database
database_of w = database w.width (drawn w.seed 0 (w.rows * w.width))

-- where the session's number begins, on which no answer depends
abbrev pub session_from : Workload → ℕ
session_from w = w.rows * w.width

-- where the coins begin
abbrev pub coins_from : Workload → ℕ
coins_from w = session_from w + NUMBER_LEN

-- the coins: one for each row and each degree from 1 on
abbrev pub coins_of : Workload → List ℕ
coins_of w = drawn w.seed (coins_from w) (w.rows * w.degree)

-- where the lies begin
abbrev pub lies_from : Workload → ℕ
lies_from w = coins_from w + w.rows * w.degree

-- the payload of liar v, counted from 0
abbrev pub lie : Workload → ℕ → List ℕ
lie w v = drawn w.seed (lies_from w + v * w.width) w.width

-- the block that is asked for: the seed modulo the number of rows
abbrev pub asked_block : Workload → ℕ
asked_block w = w.seed % w.rows

-- how many servers are honest: the first ones
abbrev pub honest : Workload → ℕ
honest w = w.servers - w.liars

-- what an honest server answers: the product of the query that it is sent, and the database
abbrev pub honest_payload : Workload → ℕ → List ℕ
honest_payload w i = product (database_of w).rows w.width (query (coins_of w) w.degree w.rows (asked_block w) i)

-- the row that is asked for
abbrev pub asked_row : Workload → List ℕ
asked_row w = slice_index_or (database_of w).rows (asked_block w) []

-- what server i answers, counted from 1: the last ones lie
unfoldable pub payload : Workload → ℕ → List ℕ
payload w i = if nat_le i (honest w) then honest_payload w i else lie w (i - honest w - 1)

-- the answers of all servers
unfoldable pub all_answers : Workload → List Answer
all_answers w = map (λ i. record { index = i; payload = payload w i }) (range_with_len 1 w.servers)
