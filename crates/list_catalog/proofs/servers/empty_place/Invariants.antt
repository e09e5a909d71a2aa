use Rattle.std.proofs.Common.{◌≡◌, ◌==◌, drop, length, map, string_bytes}
use Rattle.std.specs.List.{position_from}
use Rattle.list_catalog.specs.Serving.{empty_place}
use Rattle.list_catalog.proofs.servers.empty_place.Given as goal

abbrev pub invariant-loop-place : goal.invariant-loop-place
invariant-loop-place l =
    position_from (λ address. length address == 0) l.place (map string_bytes (drop l.place l.addresses))
    ≡ empty_place (map string_bytes l.addresses)
