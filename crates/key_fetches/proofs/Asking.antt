-- One more fetch.
use Rattle.std.proofs.Common.{◌∙◌, ℕ, ◌+◌, ◌<◌, List, [], ◌∷◌, ◌++◌, map, None, slice_index_or, refl, subst}
use Rattle.std.specs.Prelude.{fold}
use Rattle.port_trait.specs.World.{Cell, World}
use Rattle.port_trait.specs.Number.{link}
use Rattle.wire_frames.specs.Sizes.{answer_len}
use Rattle.wire_frames.specs.Session.{Transcript}
use Rattle.block_decoder.specs.declared.verdict.Verdict.{Verdict}
use Rattle.query_rounds.specs.declared.plan.FetchPlan.{FetchPlan}
use Rattle.query_rounds.specs.Link.{LinkAsked}
use Rattle.query_rounds.specs.Request.{request}
use Rattle.query_rounds.specs.Gathered.{AskedEach, AsksWith, TouchesLinks}
use Rattle.key_search.specs.Standing.{Standing, asked_row, standing_after}
use Rattle.key_fetches.specs.Listed.{only_block}
use Rattle.key_fetches.specs.Rounds.{AreJudged, AskEach, AskedInTurn, IsJudged, IsRound, Round, frame_in}

-- the round of a fetch of this row
abbrev pub round_of : ℕ → List ℕ → Transcript → Round
round_of row coins session = record { row = row; coins = coins; session = session }

-- one more fetch has its verdict
pub judged_more : (p : FetchPlan) (s : Standing) (rounds : List Round) (verdicts : List Verdict) (round : Round) (verdict : Verdict)
    → AreJudged p s rounds verdicts → IsJudged p (asked_row (fold standing_after s (map only_block verdicts))) round verdict
    → AreJudged p s (rounds ++ round ∷ []) (verdicts ++ verdict ∷ [])
judged_more p s [] [] round verdict judged last = (last, tt)
judged_more p s [] (v ∷ verdicts) round verdict judged last = absurd judged
judged_more p s (r ∷ rounds) [] round verdict judged last = absurd judged
judged_more p s (r ∷ rounds) (v ∷ verdicts) round verdict judged last =
    (judged.0, judged_more p (standing_after s (only_block v)) rounds verdicts round verdict judged.1 last)

-- a link is asked once more
pub asked_more : (p : FetchPlan) (address : List ℕ) (i : ℕ) (rounds : List Round) (round : Round) (old mid new : Cell)
    → AskedInTurn p address i rounds old mid
    → LinkAsked address (frame_in p (i + 1) round) (answer_len 1 p.s) (slice_index_or round.session.records i None) mid new
    → AskedInTurn p address i (rounds ++ round ∷ []) old new
asked_more p address i [] round old mid new asked last = (
  new,
  (
    subst (λ (c : Cell). LinkAsked address (frame_in p (i + 1) round) (answer_len 1 p.s)
        (slice_index_or round.session.records i None) c new) asked last,
    refl,
  ),
)
asked_more p address i (r ∷ rounds) round old mid new asked last =
    (asked.0, (asked.1.0, asked_more p address i rounds round asked.0 mid new asked.1.1 last))

-- no link was asked yet
pub ask_each_none : (p : FetchPlan) (addresses : List (List ℕ)) (w : World) → AskEach p addresses [] w w
ask_each_none p addresses w = record { each = λ i l. refl }

-- each link is asked once more
pub ask_each_more : (p : FetchPlan) (addresses : List (List ℕ)) (rounds : List Round) (row : ℕ) (coins : List ℕ)
    (session : Transcript) (old mid new : World) → AskEach p addresses rounds old mid
    → AskedEach (request p (row ∷ []) addresses) coins p.n session mid new
    → AskEach p addresses (rounds ++ round_of row coins session ∷ []) old new
ask_each_more p addresses rounds row coins session old mid new asked last = record {
  each = λ i l. asked_more p (slice_index_or addresses i []) i rounds (round_of row coins session)
      (old.at (link 1 + i)) (mid.at (link 1 + i)) (new.at (link 1 + i)) (asked.each i l) (last.each i l);
}

-- what a fetch that asked every server is
pub round_is : (p : FetchPlan) (row : ℕ) (addresses : List (List ℕ)) (coins : List ℕ) (session : Transcript) (old new : World)
    → row < p.r → AsksWith (request p (row ∷ []) addresses) coins session old new → IsRound p row (round_of row coins session)
round_is p row addresses coins session old new low asks = record {
  row_is = refl;
  low = low;
  size = asks.tossed.size;
  bytes = asks.tossed.bytes;
  params = asks.asked.params;
  whole = asks.asked.whole;
}

-- no link is touched yet
pub links_none : (n : ℕ) (w : World) → TouchesLinks n w w
links_none n w = record { others = λ q l coins range. refl; crowd = refl; started = refl }

-- the links are touched, and Coins, by one call after the other
pub links_more : (n : ℕ) (w v u : World) → TouchesLinks n w v → TouchesLinks n v u → TouchesLinks n w u
links_more n w v u a b = record {
  others = λ q l coins range. b.others q l coins range ∙ a.others q l coins range;
  crowd = b.crowd ∙ a.crowd;
  started = b.started ∙ a.started;
}
