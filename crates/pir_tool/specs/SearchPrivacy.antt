-- What a coalition of servers is sent in a search for keys of a list, it is sent for as many other keys, from coins that
-- bijections give (Goldberg 2007).
use Rattle.std.specs.Prelude.{◌≡◌, ℕ, List, [], ◌∷◌, length, map, All, ⊤}
use Rattle.std.specs.List.{AllZip, range_with_len}
use Rattle.query_rounds.specs.declared.plan.FetchPlan.{FetchPlan}
use Rattle.query_rounds.specs.Plan.{need}
use Rattle.list_finds.specs.Queries.{Query}
use Rattle.list_finds.specs.Sent.{frames_to}
use Rattle.list_finds.specs.Wanted.{Wanted, keys_of, queries_for, rows_of}
use Rattle.privacy_law.specs.Bijection.{AreCoins}
use Rattle.pir_tool.specs.Privacy.{PartnerIsBijection, partner_coins}

-- the rows that each query of a search asks for
abbrev pub rows_asked : Wanted → List (List ℕ)
rows_asked w = map (λ i. rows_of w (keys_of w i)) (range_with_len 0 (queries_for w))

-- these queries ask for those rows, each with as many coins as it needs
abbrev pub AskFor : FetchPlan → List (List ℕ) → List Query → Type 0
AskFor p [] [] = ⊤
AskFor p [] (q ∷ queries) = ⊥
AskFor p (rows ∷ others) [] = ⊥
AskFor p (rows ∷ others) (q ∷ queries) =
    (q.rows ≡ rows) × AreCoins (need p (length rows)) q.coins × AskFor p others queries

-- the queries for other rows, each with the coins that show the coalition the same
abbrev pub partner_queries : FetchPlan → List ℕ → List (List ℕ) → List Query → List Query
partner_queries p coalition [] queries = []
partner_queries p coalition (rows ∷ others) [] = []
partner_queries p coalition (rows ∷ others) (q ∷ queries) =
    record q { rows = rows; coins = partner_coins p coalition q.rows rows q.coins }
    ∷ partner_queries p coalition others queries

-- the queries for other rows ask for these, in each the coins are those that a bijection gives, and each member is sent the same
-- frames
pub record LooksTheSame (p : FetchPlan) (coalition : List ℕ) (rows others : List (List ℕ)) (queries : List Query)
    : Type 0 where
  pub asks : AskFor p others (partner_queries p coalition others queries)
  pub bijections : AllZip (PartnerIsBijection p coalition) rows others
  pub same : All (λ i. frames_to p i (partner_queries p coalition others queries) ≡ frames_to p i queries) coalition

-- so it is for any two searches by one plan that have as many keys, whatever these are and the lists
abbrev pub SearchLooksTheSame : FetchPlan → List ℕ → Type 0
SearchLooksTheSame p coalition = (w other : Wanted) (queries : List Query) → w.plan ≡ p → other.plan ≡ p
    → length other.keys ≡ length w.keys → AskFor p (rows_asked w) queries
    → LooksTheSame p coalition (rows_asked w) (rows_asked other) queries
