use Rattle.std.proofs.Common.{◌+◌, ◌-◌, ◌≤◌, vec_len}
use Rattle.drawn_workload.specs.Servers.{HasAnswered, IsRoomFor}
use Rattle.drawn_workload.proofs.servers.Servers.answer_each.Given as goal

-- The servers up to this place have answered.
abbrev pub invariant-servers : goal.invariant-servers
invariant-servers g l = record {
  begun : 1 ≤ l.place + 1;
  answers : HasAnswered l.self.load (l.place + 1 - 1) l.answers;
  room : IsRoomFor l.self (vec_len l.room.query) (vec_len l.room.sums) (vec_len l.room.answer);
}
