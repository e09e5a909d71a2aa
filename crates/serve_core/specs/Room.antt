-- The room that serving takes.
use Rattle.std.specs.Prelude.{◌≡◌, vec_len}
use Rattle.serve_core.specs.Terms.{most_payload_for}
use Rattle.serve_core.specs.Service.{Service, most_frame_for, most_sums_for, terms_of}
use Rattle.serve_core.specs.declared.room.Room.{Room}

-- the room is as much as the service takes for the most blocks that a query asks for: the payload of
-- the query, the sums of the workers, and the frame of the answer
pub record Fits (service : Service) (room : Room) : Type 0 where
  pub query : vec_len room.query ≡ most_payload_for (terms_of service)
  pub scratch : vec_len room.scratch ≡ most_sums_for service
  pub frame : vec_len room.frame ≡ most_frame_for service
