-- Answers one behind another.
use Rattle.std.proofs.Common.{◌≡◌, ℕ, ◌*◌, ◌<◌, List, length, sym, ◌∙◌, ap, ap₂}
use Rattle.wire_frames.specs.declared.scheme.Scheme.{Scheme}
use Rattle.wire_frames.specs.Scheme.{scheme_of, payload_len}
use Rattle.wire_frames.specs.Turns.{piece}
use Rattle.wire_frames.proofs.Turns.{in_turn-of-pieces, piece-range}
use Rattle.row_workers.specs.Pieces.{piece as range_piece}
use Rattle.block_matrix.specs.Database.{Database}
use Rattle.serve_core.specs.Service.{Service}
use Rattle.serve_core.specs.Reply.{answer, answers, answer_at}

-- the answers to the vectors of a payload in a scheme, by their pieces
pub answered : (service : Service) (scheme : Scheme) (database : Database) (count : ℕ) (query out : List ℕ)
    → scheme_of service.scheme ≡ scheme → database ≡ service.database → length out ≡ count * service.database.width
    → ((v : ℕ) → v < count → range_piece database.width out v
    ≡ answer scheme database (range_piece (payload_len scheme (length database.rows)) query v))
    → out ≡ answers service count query
answered service scheme database count query out is same long each =
    in_turn-of-pieces count service.database.width out (answer_at service query) long
    (λ v l. sym (piece-range service.database.width v out) ∙ ap (λ (d : Database). range_piece d.width out v) (sym same) ∙ each v l
    ∙ ap (answer scheme database) (piece-range (payload_len scheme (length database.rows)) v query)
    ∙ ap₂ (λ (s : Scheme) (d : Database). answer s d (piece (payload_len s (length d.rows)) v query)) (sym is) same)
