use Rattle.std.proofs.Common.{◌≡◌, map, take}
use Rattle.list_tool.proofs.keys_file.slices_of.Given as goal

-- the keys before this one are taken
abbrev pub invariant-places : goal.invariant-places
invariant-places l = map (λ key. key.now) l.slices.items ≡ take l.place l.keys
