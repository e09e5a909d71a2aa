-- The numbers that calls answer.
use Rattle.std.specs.Prelude.{ℤ, pos, negsuc}
use Rattle.client_calls.specs.declared.refusal.Refusal.{Refusal}
use Rattle.client_calls.specs.declared.refusal.Refusal.TheVariants.{Plan, Blocks, Index, Coins, Answers, Room, Memory}
use Rattle.libpir.specs.declared.code.Code.{Code}
use Rattle.libpir.specs.declared.code.Code.TheVariants.{Done, NoBlock, Several, FewAnswers, WeakAgreement, HighCost, BrokenRow, BadSession, NoMemory, NotInList}
use Rattle.libpir.specs.declared.code.Code.TheVariants.{BadPlan, BadBlocks, BadIndex, FewCoins, SmallRoom, BadAnswers, BadList, BadDatabase}

-- its number: that of the program's status where it has one, and below 0 what only a caller can get wrong
abbrev pub number_of : Code → ℤ
number_of Done = pos 0
number_of NoBlock = pos 3
number_of Several = pos 4
number_of FewAnswers = pos 5
number_of WeakAgreement = pos 6
number_of HighCost = pos 7
number_of BrokenRow = pos 10
number_of BadSession = pos 10
number_of NoMemory = pos 12
number_of NotInList = pos 14
number_of BadPlan = negsuc 0
number_of BadBlocks = negsuc 1
number_of BadIndex = negsuc 2
number_of FewCoins = negsuc 3
number_of SmallRoom = negsuc 4
number_of BadAnswers = negsuc 5
number_of BadList = negsuc 6
number_of BadDatabase = negsuc 7

-- the code of a refusal
abbrev pub refusal_code : Refusal → Code
refusal_code Plan = BadPlan
refusal_code Blocks = BadBlocks
refusal_code Index = BadIndex
refusal_code Coins = FewCoins
refusal_code Answers = BadAnswers
refusal_code (Room wanted) = SmallRoom
refusal_code Memory = NoMemory
