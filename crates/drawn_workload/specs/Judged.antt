-- The verdict on a workload.
use Rattle.block_decoder.specs.Verdict.{IsDecided}
use Rattle.block_decoder.specs.declared.verdict.Verdict.{Verdict}
use Rattle.drawn_workload.specs.Workload.{all_answers}
use Rattle.drawn_workload.specs.declared.order.Workload.{Workload}

-- the verdict on the answers of all servers
abbrev pub IsDecidedOn : Workload → Verdict → Type 0
IsDecidedOn w verdict = IsDecided (all_answers w) w.width w.degree w.agree verdict
