use Rattle.std.proofs.Common.{◌≡◌, map, take, string_bytes}
use Rattle.list_words.proofs.address_list.owned.Given as goal

abbrev pub invariant-loop-text : goal.invariant-loop-text
invariant-loop-text l = map string_bytes l.list.items ≡ map (λ v. v.now) (take l.text-index l.texts)
