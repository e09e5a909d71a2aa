use Rattle.std.proofs.Common.{◌≡◌, drop}
use Rattle.std.specs.List.{list_any}
use Rattle.std.specs.Str.{bytes_eq}
use Rattle.list_catalog.specs.Member.{name_of}
use Rattle.list_catalog.proofs.read.is_known.Given as goal

abbrev pub invariant-loop-member : goal.invariant-loop-member
invariant-loop-member l =
    list_any (λ m. bytes_eq l.name (name_of m)) (drop l.member-index l.known)
    ≡ list_any (λ m. bytes_eq l.name (name_of m)) l.known
