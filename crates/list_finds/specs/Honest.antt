-- What honest servers, which hold the table of a list, say of keys.
use Rattle.std.specs.Prelude.{◌≡◌, ℕ, List, length, All, Contains, None}
use Rattle.std.specs.List.{AllZip}
use Rattle.key_table.specs.Entry.{IsPair, Pair}
use Rattle.key_table.specs.KeyList.{IsClear}
use Rattle.key_table.specs.Looked.{LacksDigest, pair}
use Rattle.key_table.specs.Table.{IsTable}
use Rattle.query_rounds.specs.Sent.{queries_from}
use Rattle.fetch_client.specs.Held.{held_as}
use Rattle.fetch_client.specs.Honest.{HonestRecords, IsClose}
use Rattle.list_finds.specs.Found.{Come, come_of}
use Rattle.list_finds.specs.Known.{digest_in, making_of}
use Rattle.list_finds.specs.Queries.{AreOutcomes, Outcome, Query}
use Rattle.list_finds.specs.Wanted.{IsWanted, Wanted, queries_for}
use Rattle.list_finds.specs.declared.answers.Answer.{Answer}
use Rattle.list_finds.specs.declared.answers.Answer.TheVariants.{Unknown, Broken, Absent, Present}

-- this is what a list has for a digest: its value, or none
abbrev pub SaysOf : List Pair → List ℕ → Answer (List ℕ) → Type 0
SaysOf list digest Unknown = ⊥
SaysOf list digest Broken = ⊥
SaysOf list digest Absent = LacksDigest list digest
SaysOf list digest (Present value) = Contains list (pair digest value)

-- this is the table of that list, which is clear, as it is looked for
pub record IsTableOf (w : Wanted) (list : List Pair) (table : List (List ℕ)) : Type 0 where
  pub is_table : IsTable (making_of w.list w.plan.r) w.list.salt w.plan.s list table
  pub clear : IsClear list
  pub pairs : All (IsPair w.list.size w.list.most) list

-- at least h of the records of a query's session are the frames of honest servers that hold the table, or their shares
-- of it, and 2 h > k + t for its k usable answers and its degree t
pub record IsHonestQuery (w : Wanted) (table : List (List ℕ)) (q : Query) : Type 0 where
  pub share_coins : List ℕ
  pub honest : HonestRecords q.session w.plan.t (held_as w.plan.tau table share_coins) (queries_from q.coins) q.rows
  pub close : IsClose q.session

-- what a search comes to where each key is answered by what the list has for it, and each verdict lists one block
pub record AnswersFor (w : Wanted) (list : List Pair) (come : Come) : Type 0 where
  pub says : AllZip (λ key answer. SaysOf list (digest_in w.list key) answer) w.keys come.answers
  pub listed : come.unlisted ≡ None

-- so it is where all queries are honest, whatever the list is and the table
abbrev pub AnswersForTheList : Type 0
AnswersForTheList = (w : Wanted) (queries : List Query) (outcomes : List Outcome) (list : List Pair)
    (table : List (List ℕ)) → IsWanted w → length queries ≡ queries_for w → AreOutcomes w 0 queries outcomes
    → IsTableOf w list table → All (IsHonestQuery w table) queries → AnswersFor w list (come_of queries outcomes)
