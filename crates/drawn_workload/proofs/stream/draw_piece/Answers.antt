use Rattle.std.proofs.Common.{◌∙◌, ap, length}
use Rattle.drawn_workload.proofs.StreamBytes.{filled, left}
use Rattle.drawn_workload.proofs.stream.draw_piece.Goals as goal

pub returns-clause-bytes : goal.returns-clause-bytes
returns-clause-bytes c = ap (λ p. p.0) c.fill_bytes_via_u32.ensures ∙ filled c.args.rng.now (length c.args.out.now) c.requires.first_stream c.requires.within

pub returns-clause-place : goal.returns-clause-place
returns-clause-place c = ap (λ p. p.1) c.fill_bytes_via_u32.ensures ∙ left c.args.rng.now (length c.args.out.now) c.requires.within
