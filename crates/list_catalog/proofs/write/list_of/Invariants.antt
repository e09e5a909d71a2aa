use Rattle.std.proofs.Common.{◌≡◌, take, map, string_bytes}
use Rattle.toml.specs.View.{items_view}
use Rattle.list_catalog.specs.Writing.{items_of}
use Rattle.list_catalog.proofs.write.list_of.Given as goal

abbrev pub invariant-loop-text : goal.invariant-loop-text
invariant-loop-text l = items_view l.list.items ≡ items_of (map string_bytes (take l.text-index l.texts))
