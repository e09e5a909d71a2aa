-- What a server answers to the bytes of a guest: the frame, and what the guest was met with, in
-- Shamir's scheme (Goldberg 2007) and in the XOR scheme (Chor, Goldreich, Kushilevitz and Sudan
-- 1995).
use Rattle.std.specs.Prelude.{◌≡◌, ℕ, false, List, [], ◌++◌}
use Rattle.gf256.specs.Product.{product}
use Rattle.wire_frames.specs.declared.scheme.Scheme.{Scheme}
use Rattle.wire_frames.specs.declared.scheme.Scheme.TheVariants.{Shamir, Xor}
use Rattle.wire_frames.specs.Scheme.{scheme_of}
use Rattle.wire_frames.specs.Header.{answer_to, blocks_in}
use Rattle.wire_frames.specs.Turns.{piece, in_turn}
use Rattle.block_matrix.specs.Database.{Database}
use Rattle.chor_xor.specs.Chosen.{chosen}
use Rattle.serve_core.specs.Terms.{vector_len_for}
use Rattle.serve_core.specs.Service.{Service, terms_of}
use Rattle.serve_core.specs.Case.{IsCut, IsWholeWith, Refuses, header_of, payload}
use Rattle.serve_core.specs.declared.met.Met.{Met}
use Rattle.serve_core.specs.declared.met.Met.TheVariants.{Served, Refused, Gone, GuestFault}

-- the answer to a vector: the product of the vector and the database, or the sum of the chosen rows
abbrev pub answer : Scheme → Database → List ℕ → List ℕ
answer Shamir database query = product database.rows database.width query
answer Xor database query = chosen database query

-- the answer to the i-th vector of a payload
abbrev pub answer_at : Service → List ℕ → ℕ → List ℕ
answer_at service query i =
    answer (scheme_of service.scheme) service.database (piece (vector_len_for (terms_of service)) i query)

-- the answers to so many vectors, one behind another
abbrev pub answers : Service → ℕ → List ℕ → List ℕ
answers service count query = in_turn count (answer_at service query)

-- the frame of an answer: the header of status 0, and the answers to the vectors
abbrev pub answer_frame : Service → List ℕ → List ℕ → List ℕ
answer_frame service header query = answer_to header 0 ++ answers service (blocks_in header) query

-- the reply to a guest with these bytes: what it is met with, and the frame
abbrev pub Replies : Service → List ℕ → Met → List ℕ → Type 0
Replies service bytes Served frame = IsWholeWith false (terms_of service) bytes
    × (frame ≡ answer_frame service (header_of bytes) (payload (terms_of service) bytes))
Replies service bytes (Refused status) frame = Refuses (terms_of service) bytes status
    × (frame ≡ answer_to (header_of bytes) status)
Replies service bytes Gone frame = IsCut (terms_of service) bytes × (frame ≡ [])
Replies service bytes GuestFault frame = ⊥

-- the bytes ask for one reply alone
abbrev pub AsksForOneReply : Service → List ℕ → Type 0
AsksForOneReply service bytes = (met other : Met) (frame out : List ℕ)
    → Replies service bytes met frame → Replies service bytes other out → (met ≡ other) × (frame ≡ out)
