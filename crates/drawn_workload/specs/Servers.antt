-- The servers of a workload, in memory, and what is drawn for them.
use Rattle.std.specs.Prelude.{◌≡◌, ℕ, ◌*◌, List}
use Rattle.std.specs.List.{flat_map, range_with_len}
use Rattle.wire_frames.specs.Answer.{Answer}
use Rattle.block_decoder.specs.Agreed.{answers_of}
use Rattle.block_decoder.specs.declared.answers.ServerAnswers.{ServerAnswers}
use Rattle.block_matrix.specs.Database.{Database}
use Rattle.drawn_workload.specs.Stream.{drawn}
use Rattle.drawn_workload.specs.WorkloadOrder.{WorkloadOrder}
use Rattle.drawn_workload.specs.Workload.{database_of, coins_of, lies_from, payload}
use Rattle.drawn_workload.specs.declared.order.Workload.{Workload}

-- the workload, and how many workers sum the rows of each server
pub record Servers : Type 0 where
  pub load : Workload
  pub workers : ℕ

-- those that are ordered
abbrev pub servers_of : WorkloadOrder → Servers
servers_of o = record { load = o.load; workers = o.workers }

-- so much memory for a query, for the sums of the workers and for an answer as each server needs
pub record IsRoomFor (s : Servers) (query sums answer : ℕ) : Type 0 where
  pub query_is : query ≡ s.load.rows
  pub sums_are : sums ≡ s.workers * s.load.width
  pub answer_is : answer ≡ s.load.width

-- what is drawn: the database, the coins, and the lies one after another
pub record IsDrawn (w : Workload) (matrix : Database) (coins lies : List ℕ) : Type 0 where
  pub database_is : matrix ≡ database_of w
  pub coins_are : coins ≡ coins_of w
  pub lies_are : lies ≡ drawn w.seed (lies_from w) (w.liars * w.width)

-- how many bytes the payloads of all servers have
abbrev pub payloads_len : Workload → ℕ
payloads_len w = w.servers * w.width

-- the answers that lie in two slices
abbrev pub answers_in : Workload → ServerAnswers → List Answer
answers_in w all = answers_of w.width all.indices.items all.payloads.items

-- the first n servers have answered
pub record HasAnswered (w : Workload) (n : ℕ) (all : ServerAnswers) : Type 0 where
  pub indices : all.indices.items ≡ range_with_len 1 n
  pub payloads : all.payloads.items ≡ flat_map (payload w) (range_with_len 1 n)
