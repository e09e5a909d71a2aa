-- The sum of the usable answers of a session, server by server.
use Rattle.std.proofs.Common.{◌≡◌, ℕ, ◌+◌, ◌<◌, ◌≤◌, List, [], ◌∷◌, ◌++◌, length, map, get_or, replicate, None, Some, refl, sym, ap, ◌∙◌, arith, inl, inr}
use Rattle.std.proofs.lemmas.Bool.{cases_lt}
use Rattle.std.proofs.lemmas.List.{length-append, map-append, get_or-replicate, get_or_past, length-replicate}
use Rattle.gf256.specs.Field.{◌⊕◌}
use Rattle.gf256.specs.Sums.{sum_to}
use Rattle.chor_xor.specs.Chosen.{combined_at, combined}
use Rattle.chor_xor.proofs.ChosenSums.{combined-is, combined_at-push}
use Rattle.wire_frames.specs.Answer.{Answer, answers, block_len}
use Rattle.wire_frames.specs.Session.{Transcript}
use Rattle.block_decoder.specs.Usable.{payload_of}
use Rattle.block_decoder.proofs.Collected.{HasCollected, collected_none, collected_absent, collected_present, collected_all}

-- the payloads of answers
abbrev pub payloads_of : List Answer → List (List ℕ)
payloads_of all = map (λ (a : Answer). a.payload) all

-- the answers of the servers before the next are summed
pub record HasCombined (session : Transcript) (sum : List ℕ) (k next : ℕ) : Type 0 where
  pub made : List Answer
  pub collected : HasCollected session made next
  pub count : k ≡ length made
  pub few : k < next
  pub size : length sum ≡ (block_len session.params)
  pub is : (c : ℕ) → get_or sum c 0 ≡ combined_at (payloads_of made) c

-- a list of one number has it everywhere, where it is the default too
get_or-replicate_default : (n x c : ℕ) → get_or (replicate n x) c x ≡ x
get_or-replicate_default n x c =
    elim (cases_lt c n) [
      | inl low ↦ get_or-replicate n c x x low
      | inr past ↦ get_or_past (replicate n x) c x (omega (arith, past, length-replicate n x))
    ]

-- nothing yet
pub combined_none : (session : Transcript) (sum : List ℕ) → sum ≡ replicate (block_len session.params) 0 → HasCombined session sum 0 1
unfolding combined_at sum_to
combined_none session sum zeros = record {
  made = [];
  collected = collected_none session;
  count = refl;
  few = omega arith;
  size = ap length zeros ∙ length-replicate (block_len session.params) (let none : ℕ = 0 in none);
  is = λ c. ap (λ (xs : List ℕ). get_or xs c 0) zeros ∙ get_or-replicate_default (block_len session.params) 0 c;
}

-- the next server's answer isn't usable
pub combined_absent : (session : Transcript) (sum : List ℕ) (k next : ℕ) → 1 ≤ next → next ≤ length session.records → payload_of session next ≡ None
    → HasCombined session sum k next → HasCombined session sum k (next + 1)
combined_absent session sum k next low high absent so_far = record {
  made = so_far.made;
  collected = collected_absent session so_far.made next low high absent so_far.collected;
  count = so_far.count;
  few = let l = so_far.few in omega (arith, l);
  size = so_far.size;
  is = so_far.is;
}

-- the next server's answer is usable
pub combined_present : (session : Transcript) (sum new : List ℕ) (k next : ℕ) (payload : List ℕ) → 1 ≤ next → next ≤ length session.records → payload_of session next ≡ Some payload
    → length new ≡ length sum → ((c : ℕ) → get_or new c 0 ≡ get_or sum c 0 ⊕ get_or payload c 0)
    → HasCombined session sum k next → HasCombined session new (k + 1) (next + 1)
combined_present session sum new k next payload low high present size added so_far =
    let one : Answer = record { index = next; payload = payload } in
    let longer = length-append so_far.made (one ∷ []) in
    record {
      made = so_far.made ++ one ∷ [];
      collected = collected_present session so_far.made next payload low high present so_far.collected;
      count = let n = so_far.count in omega (arith, n, longer);
      few = let l = so_far.few in omega (arith, l);
      size = size ∙ so_far.size;
      is = λ c. added c ∙ ap (λ x. x ⊕ get_or payload c 0) (so_far.is c) ∙ sym (combined_at-push (payloads_of so_far.made) payload c)
          ∙ sym (ap (λ (ps : List (List ℕ)). combined_at ps c) (map-append (λ (a : Answer). a.payload) so_far.made (one ∷ [])));
    }

-- when all servers are passed, the answers are counted and summed
pub combined_all : (session : Transcript) (sum : List ℕ) (k : ℕ) → length session.records ≡ session.params.n → HasCombined session sum k (session.params.n + 1)
    → (k ≡ length (answers session)) × (sum ≡ combined (block_len session.params) (payloads_of (answers session)))
combined_all session sum k all done =
    let whole = collected_all session done.made all done.collected in (
      done.count ∙ ap length whole,
      combined-is (payloads_of (answers session)) sum (block_len session.params) done.size (λ c. done.is c ∙ ap (λ (made : List Answer). combined_at (payloads_of made) c) whole),
    )
