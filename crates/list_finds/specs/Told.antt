-- How the answers to the keys of a query are told.
use Rattle.std.specs.Prelude.{◌≡◌, ℕ, ◌+◌, ◌++◌, List, length, replicate, Option}
use Rattle.list_finds.specs.Answers.{AreAnswers}
use Rattle.list_finds.specs.Held.{Held}
use Rattle.list_finds.specs.declared.answers.Answer.{Answer}
use Rattle.list_finds.specs.declared.answers.Answer.TheVariants.{Unknown}
use Rattle.list_finds.specs.declared.known_list.KnownList.{KnownList}

-- the answers to these keys stand behind those before, by the one block that the verdict on their query lists, if it
-- does
pub record Tells (list : KnownList) (rows width : ℕ) (block : Option (List ℕ)) (keys : List (List ℕ))
    (old new : Held) : Type 0 where
  pub told : List (Answer (List ℕ))
  pub are : AreAnswers list rows width block keys told
  pub answers : new.answers ≡ old.answers ++ told
  pub room : new.room + length keys ≡ old.room
  pub most : new.most ≡ old.most

-- it is told of so many keys that nothing is known of them
pub record TellsNone (count : ℕ) (old new : Held) : Type 0 where
  pub answers : new.answers ≡ old.answers ++ replicate count Unknown
  pub room : new.room + count ≡ old.room
  pub most : new.most ≡ old.most
