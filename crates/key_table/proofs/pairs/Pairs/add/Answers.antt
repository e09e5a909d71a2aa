use Rattle.std.proofs.Common.{◌≡◌, ◌++◌, ◌∷◌, [], sym, ap, ap₂, ◌∙◌}
use Rattle.std.proofs.lemmas.Result.{IfOk-weaker}
use Rattle.key_table.specs.Held.{Held, pairs_of}
use Rattle.key_table.specs.Looked.{pair}
use Rattle.key_table.proofs.Gathered.{as_held}
use Rattle.key_table.proofs.Stored.{pairs_push}
use Rattle.key_table.proofs.pairs.Pairs.add.Goals as goal

pub returns-clause-added : goal.returns-clause-added
returns-clause-added c =
    let i = c.self.inside in
    let d = c.args.digest.now in
    let v = c.args.value.now in
    let size : i.size ≡ c.args.self.now.size = ap (λ (h : Held). h.size) c.self.view_is in
    IfOk-weaker c.append.result _ _
    (λ r h. ap₂ as_held size
    (ap₂ (pairs_of i.size) h.0 h.1 ∙ pairs_push i.size i.bytes.items i.starts.items d v (c.requires.digest ∙ sym size) c.self.invariant
    ∙ ap (λ (h : Held). h.pairs ++ pair d v ∷ []) c.self.view_is))
    c.append.ensures.added
