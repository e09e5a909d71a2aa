use Rattle.std.proofs.Common.{◌≡◌, ◌∙◌, ◌*◌, ℕ, length, ap, sym}
use Rattle.block_matrix.specs.Database.{Database}
use Rattle.wire_frames.specs.Scheme.{payload_len, scheme_of}
use Rattle.wire_frames.specs.declared.scheme.Scheme.{Scheme}
use Rattle.wire_frames.specs.declared.scheme.Scheme.TheVariants.{Shamir, Xor}
use Rattle.serve_core.specs.Service.{Service, sums_len_for, terms_of}
use Rattle.serve_core.specs.Terms.{payload_len_for}
use Rattle.serve_core.proofs.Written.{answered}
use Rattle.serve_core.proofs.answer.write_rows.Goals as goal

-- a query is as long as the rows of the matrix want it in a scheme
rows_long : (service : Service) (scheme : Scheme) (matrix : Database) (count long : ℕ)
    → scheme_of service.scheme ≡ scheme → matrix ≡ service.database → long ≡ payload_len_for (terms_of service) count
    → long ≡ count * payload_len scheme (length matrix.rows)
rows_long service scheme matrix count long is same whole =
    whole
    ∙ (ap (λ (s : Scheme). count * payload_len s (length service.database.rows)) is
    ∙ ap (λ (d : Database). count * payload_len scheme (length d.rows)) (sym same))

-- the sums are as long as the workers want them
sums_long : (service : Service) (matrix : Database) (workers count long : ℕ)
    → workers ≡ service.workers → matrix ≡ service.database → long ≡ sums_len_for service count
    → long ≡ workers * (count * matrix.width)
sums_long service matrix workers count long are same whole =
    whole
    ∙ (ap (λ (n : ℕ). n * (count * service.database.width)) (sym are)
    ∙ ap (λ (d : Database). workers * (count * d.width)) (sym same))

-- the room is as long as the rows that are asked for
room_long : (service : Service) (matrix : Database) (count long : ℕ) → matrix ≡ service.database → long ≡ count * service.database.width → long ≡ count * matrix.width
room_long service matrix count long same whole = whole ∙ ap (λ (d : Database). count * d.width) (sym same)

pub products_into-requires-clause-queries : goal.products_into-requires-clause-queries
products_into-requires-clause-queries g c κs within =
    let query = c.args.query.now in
    rows_long c.args.service.now Shamir c.matrix-matrix.result.now query.asked.count (length query.vectors.now)
    (sym c.scheme.ensures ∙ c.in-Shamir.is) c.matrix-matrix.ensures c.requires.query

pub products_into-requires-clause-scratch : goal.products_into-requires-clause-scratch
products_into-requires-clause-scratch g c κs within =
    sums_long c.args.service.now c.matrix-matrix.result.now c.workers-workers.result c.args.query.now.asked.count
    (length c.args.scratch.now) c.workers-workers.ensures.is c.matrix-matrix.ensures c.requires.scratch

pub products_into-requires-clause-room : goal.products_into-requires-clause-room
products_into-requires-clause-room g c κs within =
    room_long c.args.service.now c.matrix-matrix.result.now c.args.query.now.asked.count (length c.args.out.now)
    c.matrix-matrix.ensures c.requires.room

pub products_into-requires-clause-some : goal.products_into-requires-clause-some
products_into-requires-clause-some g c κs within = c.workers-workers.ensures.some

pub products_into-requires-clause-few : goal.products_into-requires-clause-few
products_into-requires-clause-few g c κs within = c.workers-workers.ensures.few

pub answers_into-requires-clause-bitmaps : goal.answers_into-requires-clause-bitmaps
answers_into-requires-clause-bitmaps g c κs within =
    let query = c.args.query.now in
    rows_long c.args.service.now Xor c.matrix-matrix.result.now query.asked.count (length query.vectors.now)
    (sym c.scheme.ensures ∙ c.in-Xor.is) c.matrix-matrix.ensures c.requires.query

pub answers_into-requires-clause-scratch : goal.answers_into-requires-clause-scratch
answers_into-requires-clause-scratch g c κs within =
    sums_long c.args.service.now c.matrix-matrix.result.now c.workers-workers.result c.args.query.now.asked.count
    (length c.args.scratch.now) c.workers-workers.ensures.is c.matrix-matrix.ensures c.requires.scratch

pub answers_into-requires-clause-room : goal.answers_into-requires-clause-room
answers_into-requires-clause-room g c κs within =
    room_long c.args.service.now c.matrix-matrix.result.now c.args.query.now.asked.count (length c.args.out.now)
    c.matrix-matrix.ensures c.requires.room

pub returns-in-Shamir-clause-answers : goal.returns-in-Shamir-clause-answers
returns-in-Shamir-clause-answers g c =
    answered c.args.service.now Shamir c.matrix-matrix.result.now c.args.query.now.asked.count c.args.query.now.vectors.now c.products_into.new.out
    (sym c.scheme.ensures ∙ c.in-Shamir.is) c.matrix-matrix.ensures (c.products_into.auto.out ∙ c.requires.room) c.products_into.ensures

pub returns-in-Xor-clause-answers : goal.returns-in-Xor-clause-answers
returns-in-Xor-clause-answers g c =
    answered c.args.service.now Xor c.matrix-matrix.result.now c.args.query.now.asked.count c.args.query.now.vectors.now c.answers_into.new.out
    (sym c.scheme.ensures ∙ c.in-Xor.is) c.matrix-matrix.ensures (c.answers_into.auto.out ∙ c.requires.room) c.answers_into.ensures
