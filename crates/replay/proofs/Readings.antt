-- Reading a session from Input, piece by piece.
use Rattle.std.proofs.Common.{◌≡◌, ◌∙◌, inl, inr, ℕ, ◌+◌, ◌-◌, ◌<◌, ◌≤◌, All, List, [], ◌∷◌, ◌++◌, length, take, refl}
use Rattle.std.proofs.Common.{sym, ap, subst, arith, length-append}
use Rattle.std.specs.Prelude.{Option, Some, None, IfSome, Ok, Err}
use Rattle.std.proofs.lemmas.Bool.{cases_lt}
use Rattle.std.proofs.lemmas.List.{length-take-le, take-append-le, take_all}
use Rattle.std.proofs.lemmas.List.Elements.{All-nil, All-push}
use Rattle.port_trait.specs.World.{Cell, World}
use Rattle.port_trait.specs.Number.{INPUT}
use Rattle.port_trait.specs.Moves.{RoseOnce, Touches, Hands, Fails, counted}
use Rattle.port_trait.specs.Whole.{Reads, IsPrefix}
use Rattle.port_trait.proofs.Cells.{at_told, took_none, reads_more, reads_end, touches_more}
use Rattle.wire_frames.specs.declared.scheme.TheConstants.{SHAMIR, XOR}
use Rattle.wire_frames.specs.Sizes.{answer_len}
use Rattle.wire_frames.specs.Answer.{answers, block_len}
use Rattle.wire_frames.specs.declared.session.SessionParams.{SessionParams}
use Rattle.wire_frames.specs.Session.{Transcript, IsSession, Fits, session_bytes}
use Rattle.wire_frames.specs.Beginning.{Begins, IsPlace}
use Rattle.wire_frames.specs.Reading.{Reading, SoFar, Refused, Feeds, Ends}
use Rattle.wire_frames.specs.declared.reader.FeedFault.{FeedFault}
use Rattle.wire_frames.specs.declared.reader.FeedFault.TheVariants.{BadSession as Wrong, Memory as NoMemory}
use Rattle.wire_frames.specs.declared.reader.BadSession.{BadSession as SessionFault}
use Rattle.wire_frames.proofs.Beginnings.{begins_short}
use Rattle.wire_frames.proofs.OneSession.{one_session}
use Rattle.wire_frames.proofs.StopPlaces.{stops-prefix, stops-none}
use Rattle.block_decoder.specs.declared.verdict.Verdict.{Verdict}
use Rattle.replay.specs.declared.TheConstants.{PIECE_LEN}
use Rattle.replay.specs.Faults.{of_feed}
use Rattle.replay.specs.Replayed.{Spells, NoSession, ReadsWhole, Refuses, BreaksOff, ReadTo, ReplayCounts, CountsLeast}

-- no session is longer
abbrev pub longest : ℕ
longest = 4294967296

-- the bytes that a reader has seen
abbrev pub seen_by : Reading → List ℕ
seen_by (SoFar bytes) = bytes
seen_by (Refused place) = []

-- the reader has seen the bytes that were taken from Input so far
pub record HasSeen (reader : Reading) (old new : World) : Type 0 where
  pub still : reader ≡ SoFar (seen_by reader)
  pub reads : Reads INPUT (seen_by reader) old new
  pub others : Touches INPUT old new
  pub begins : Begins (seen_by reader)

-- what holds of the bytes read holds of those that were held
pub of_held : (P : List ℕ → Type 0) (o : Option (List ℕ)) (read : List ℕ) → IfSome o (λ h. read ≡ h) → P read
    → IfSome o P
of_held P None read is p = tt
of_held P (Some h) read is p = subst P is p

-- bytes that are refused are the prefix of no session
pub refused_prefix : (o : Option (List ℕ)) (read : List ℕ) (place : ℕ) → IfSome o (IsPrefix read) → IsPlace read place
    → place < length read → IfSome o (NoSession place)
refused_prefix None read place prefix is lt = tt
refused_prefix (Some h) read place prefix is lt =
    let there = stops-prefix IsSession read h place prefix.bytes lt is in
    record { place_is = there; none = stops-none IsSession h place there (omega (arith, prefix.there)) }

-- so many bytes were seen, with the next piece
length_seen : (n : ℕ) (sub ys : List ℕ) (v u : World) (seen : List ℕ) → length ys ≡ length sub
    → Hands INPUT n sub ys v u
    → length (seen ++ take n ys) ≡ length seen + n
length_seen n sub ys v u seen same hands =
    length-append seen (take n ys)
    ∙ ap (λ (k : ℕ). length seen + k) (length-take-le n ys (omega (arith, same, hands.fits)))

-- the least session: two servers, whose records are absent
abbrev least : Transcript
least = record {
  params = record { version = 1; scheme = 1; t = 1; h = 2; n = 2; count = 1; session = 0; r = 1; s = 1 };
  records = None ∷ None ∷ [];
}

-- absent records fit any answer
fits_absent : All (Fits (answer_len 1 1)) (None ∷ None ∷ [])
fits_absent = All-push (Fits (answer_len 1 1)) (None ∷ []) None (All-push (Fits (answer_len 1 1)) [] None
    (All-nil (Fits (answer_len 1 1))) tt) tt

-- no bytes begin a session
pub nothing_begins : Begins []
nothing_begins = record {
  rest = session_bytes least;
  value = least;
  whole = record {
    range = record {
      scheme = inl refl;
      private = omega arith;
      few_private = omega arith;
      agreement = omega arith;
      few_agree = omega arith;
      servers = omega arith;
      few_servers = omega arith;
      all_agree = λ xor. omega (arith, xor);
      all_answer = λ xor. omega (arith, xor);
      session = omega arith;
      shape = record {
        some_rows = omega arith;
        few_rows = omega arith;
        some_bytes = omega arith;
        few_bytes = omega arith;
        few_cells = omega arith;
      };
      blocks = record {
        some_version = omega arith;
        two_versions = omega arith;
        some_blocks = omega arith;
        few_blocks = omega arith;
        one_block = λ _. refl;
        few_bytes = omega arith;
      };
    };
    all = refl;
    fits = fits_absent;
    spelled = refl;
  };
}

-- before the first piece the reader has seen nothing
pub seen_nothing : (w : World) → HasSeen (SoFar []) w w
seen_nothing w = record {
  still = refl;
  reads = record { cell = sym (took_none (w.at INPUT)); told = no_bytes (w.at INPUT).holds };
  others = record { others = λ q l ne. refl; crowd = refl; started = refl };
  begins = nothing_begins;
}
  where
    no_bytes : (o : Option (List ℕ)) → IfSome o (IsPrefix [])
    no_bytes None = tt
    no_bytes (Some held) = record { there = omega arith; bytes = refl }

-- one more piece is read, and the reader has seen it
pub seen_more : (n : ℕ) (sub ys : List ℕ) (old v u : World) (reader new : Reading) (x : Unit {0})
    → length ys ≡ length sub
    → HasSeen reader old v → Hands INPUT n sub ys v u → Touches INPUT v u → Feeds reader (take n ys) (Ok x) new
    → HasSeen new old u
seen_more n sub ys old v u reader new x same h hands others fed =
    let fed' = subst (λ (r : Reading). Feeds r (take n ys) (Ok x) new) h.still fed in
    subst (λ (r : Reading). HasSeen r old u) (sym fed'.1) record {
      still = refl;
      reads = reads_more INPUT n (seen_by reader) sub ys old v u same h.reads hands;
      others = touches_more INPUT old v u h.others others;
      begins = fed'.0;
    }

-- and it has seen more than before
pub seen_grows : (n : ℕ) (sub ys : List ℕ) (old v u : World) (reader new : Reading) (x : Unit {0}) → 0 < n
    → length ys ≡ length sub → HasSeen reader old v → Hands INPUT n sub ys v u → Feeds reader (take n ys) (Ok x) new
    → longest - length (seen_by new) < longest - length (seen_by reader)
seen_grows n sub ys old v u reader new x some same h hands fed =
    let fed' = subst (λ (r : Reading). Feeds r (take n ys) (Ok x) new) h.still fed in
    let seen = seen_by reader ++ take n ys in
    let size = length_seen n sub ys v u (seen_by reader) same hands in
    let short = begins_short seen fed'.0 in
    subst (λ (r : Reading). longest - length (seen_by r) < longest - length (seen_by reader)) (sym fed'.1)
    (omega (arith, size, short))

-- a call failed behind the bytes that the reader has seen
pub seen_fails : (old v u : World) (reader : Reading) → HasSeen reader old v → Fails INPUT v u
    → BreaksOff (old.at INPUT) (u.at INPUT)
seen_fails old v u reader h fails = record {
  read = seen_by reader;
  begins = h.begins;
  cell = fails.cell ∙ ap (counted (u.at INPUT).faults) h.reads.cell;
  prefix = h.reads.told;
  rose = subst (λ (k : ℕ). RoseOnce k (u.at INPUT).faults) (ap (λ (c : Cell). c.faults) h.reads.cell) fails.rose;
}

-- where bytes begin a session, the place of what has them in prefix is not before their end
place_behind : (begun piece : List ℕ) (place : ℕ) → Begins begun → IsPlace (begun ++ piece) place → length begun ≤ place
place_behind begun piece place begins is = elim (cases_lt place (length begun)) [
  | inl before ↦
      let prefix : begun ≡ take (length begun) (begun ++ piece) =
      sym (take-append-le (length begun) begun piece (omega arith) ∙ take_all (length begun) begun (omega arith)) in
      absurd (is.longest (length begun) before (omega (arith, length-append begun piece)) (subst Begins prefix begins))
  | inr behind ↦ omega (arith, behind)
]

-- one more piece is refused
pub seen_stops : {T : Type 0} (P : T → List ℕ → Type 0) (n : ℕ) (sub ys : List ℕ) (old v u : World)
    (reader new : Reading)
    (fault : FeedFault) → length sub ≡ PIECE_LEN → length ys ≡ length sub → HasSeen reader old v
    → Hands INPUT n sub ys v u → Feeds reader (take n ys) (Err fault) new → ReadTo P (Err (of_feed fault)) old u
seen_stops P n sub ys old v u reader new (Wrong place) room same h hands fed =
    let fed' = subst (λ (r : Reading). Feeds r (take n ys) (Err (Wrong place)) new) h.still fed in
    let seen = seen_by reader ++ take n ys in
    let reads = reads_more INPUT n (seen_by reader) sub ys old v u same h.reads hands in
    let size = length_seen n sub ys v u (seen_by reader) same hands in
    let behind = place_behind (seen_by reader) (take n ys) place h.begins fed'.0 in
    record {
      read = seen;
      cell = reads.cell;
      prefix = reads.told;
      wrong = record { place_is = fed'.0; none = stops-none IsSession seen place fed'.0 fed'.1 };
      least = omega (arith, fed'.1);
      most = omega (arith, behind, size, hands.fits, room);
      none = refused_prefix (old.at INPUT).holds seen place reads.told fed'.0 fed'.1;
    }
seen_stops P n sub ys old v u reader new NoMemory room same h hands fed =
    let fed' = subst (λ (r : Reading). Feeds r (take n ys) (Err NoMemory) new) h.still fed in
    let reads = reads_more INPUT n (seen_by reader) sub ys old v u same h.reads hands in
    let size = length_seen n sub ys v u (seen_by reader) same hands in
    inl record {
      read = seen_by reader ++ take n ys;
      cell = reads.cell;
      prefix = reads.told;
      few = omega (arith, fed'.1, size, hands.fits, room);
    }

-- Input is at its end, and the bytes are a session
pub seen_whole : (n : ℕ) (sub ys : List ℕ) (old v u : World) (reader : Reading) (session : Transcript)
    → HasSeen reader old v
    → Hands INPUT n sub ys v u → n ≡ 0 → IfSome (v.at INPUT).holds (λ h. h ≡ []) → Ends reader (Ok session)
    → ReadsWhole (Spells session) (old.at INPUT) (u.at INPUT)
seen_whole n sub ys old v u reader session h hands none last ends =
    let all = reads_end INPUT n (seen_by reader) sub ys old v u h.reads hands none last in
    record {
      read = seen_by reader;
      cell = all.0;
      all = all.1;
      is = subst (λ (r : Reading). Ends r (Ok session)) h.still ends;
    }

-- Input is at its end, and the bytes are no session
pub seen_short : (n : ℕ) (sub ys : List ℕ) (old v u : World) (reader : Reading) (fault : SessionFault)
    → HasSeen reader old v
    → Hands INPUT n sub ys v u → n ≡ 0 → IfSome (v.at INPUT).holds (λ h. h ≡ []) → Ends reader (Err fault)
    → Refuses fault.place (old.at INPUT) (u.at INPUT)
seen_short n sub ys old v u reader fault h hands none last ends =
    let read = seen_by reader in
    let all = reads_end INPUT n read sub ys old v u h.reads hands none last in
    let short = subst (λ (r : Reading). Ends r (Err fault)) h.still ends in
    let wrong : NoSession fault.place read = record { place_is = short.0; none = short.2 } in
    record {
      read = read;
      cell = all.0;
      prefix = h.reads.told;
      wrong = wrong;
      least = omega (arith, short.1);
      most = omega (arith, short.1);
      none = of_held (NoSession fault.place) (old.at INPUT).holds read all.1 wrong;
    }

-- what was read to its end is the one session that Input held
pub one_read : (session other : Transcript) (bytes : List ℕ) (old new : Cell) → ReadsWhole (Spells session) old new
    → old.holds ≡ Some bytes → IsSession bytes other → session ≡ other
one_read session other bytes old new reads told is =
    let all = at_told (λ held. reads.read ≡ held) old.holds bytes told reads.all in
    one_session bytes session other (subst (Spells session) all reads.is) is

-- and steps are counted for it, as many as its verdict takes at least
pub counts_least : (least : SessionParams → Verdict → ℕ) (session : Transcript) (verdict : Verdict) (old new : Cell) (before now : ℕ)
    → ReadsWhole (Spells session) old new
    → (session.params.scheme ≡ SHAMIR → before + least session.params verdict ≤ now)
    → CountsLeast least old.holds before now verdict
counts_least least session verdict old new before now reads many = λ bytes other told is scheme.
    let same = one_read session other bytes old new reads told is in
    subst (λ (t : Transcript). before + least t.params verdict ≤ now) same
    (many (ap (λ (t : Transcript). t.params.scheme) same ∙ scheme))

-- steps are counted for the one session that Input held
pub counts_of : (bound : ℕ → ℕ → ℕ → ℕ → ℕ) (session : Transcript) (old new : Cell) (before now : ℕ)
    → ReadsWhole (Spells session) old new
    → now ≤ before + bound (length (answers session)) session.params.t session.params.h (block_len session.params)
    → (session.params.scheme ≡ XOR → now ≡ before) → ReplayCounts bound old.holds before now
counts_of bound session old new before now reads most xor = record {
  most = λ bytes other told is.
      subst (λ (t : Transcript). now ≤ before + bound (length (answers t)) t.params.t t.params.h (block_len t.params))
      (same bytes other told is) most;
  xor = λ bytes other told is scheme.
      xor (ap (λ (t : Transcript). t.params.scheme) (same bytes other told is) ∙ scheme);
  none = λ bytes told nothing. absurd (nothing (session, spelled bytes told));
}
  where
    spelled : (bytes : List ℕ) → old.holds ≡ Some bytes → IsSession bytes session
    spelled bytes told = subst (Spells session) (at_told (λ held. reads.read ≡ held) old.holds bytes told reads.all)
        reads.is

    same : (bytes : List ℕ) (other : Transcript) → old.holds ≡ Some bytes → IsSession bytes other → session ≡ other
    same bytes other told is = one_session bytes session other (spelled bytes told) is

-- where no step is counted, the counts are right
pub counts_nothing : (bound : ℕ → ℕ → ℕ → ℕ → ℕ) (held : Option (List ℕ)) (n : ℕ) → ReplayCounts bound held n n
counts_nothing bound held n = record {
  most = λ bytes session is whole. omega arith;
  xor = λ bytes session is whole x. refl;
  none = λ bytes is no. refl;
}
