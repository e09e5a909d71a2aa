use Rattle.fetch_client.proofs.HonestFrames.{honest_from_records}
use Rattle.pir_tool.proofs.honest_laws.honest_frames_are_usable.Goals as goal

pub returns : goal.returns
returns c = λ matrix share_coins. honest_from_records c.args.session.now c.args.t c.args.tau matrix share_coins c.args.coins.now c.args.blocks.now c.requires
