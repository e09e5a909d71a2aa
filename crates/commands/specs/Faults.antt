-- The status that a run ends with for a fault.
use Rattle.block_matrix.specs.declared.matrix.LoadFault.{LoadFault}
use Rattle.block_matrix.specs.declared.matrix.LoadFault.TheVariants.{EmptyFile as NoBytes, TooBig as TooManyBytes}
use Rattle.block_matrix.specs.declared.matrix.LoadFault.TheVariants.{ReadFault as Unloadable, Memory as NoRoom}
use Rattle.query_rounds.specs.declared.plan.FetchFault.{FetchFault}
use Rattle.query_rounds.specs.declared.plan.FetchFault.TheVariants.{CoinsFault, CoinsEnded as TooFewCoins}
use Rattle.query_rounds.specs.declared.plan.FetchFault.TheVariants.{Memory as NoMemory}
use Rattle.pir_words.specs.declared.asked.WordsFault.{WordsFault}
use Rattle.pir_words.specs.declared.asked.WordsFault.TheVariants.{Usage as Formless, Memory as NoMemoryForWords}
use Rattle.replay.specs.declared.ReplayFault.{ReplayFault}
use Rattle.replay.specs.declared.ReplayFault.TheVariants.{ReadFault as Unreadable, BadSession, Memory as Unfinished}
use Rattle.share_files.specs.declared.fault.SplitFault.{SplitFault}
use Rattle.share_files.specs.declared.fault.SplitFault.TheVariants.{CoinsFault as NoCoins, CoinsEnded as FewCoins}
use Rattle.share_files.specs.declared.fault.SplitFault.TheVariants.{ShareFault, Memory as NoMemoryToSplit}
use Rattle.commands.specs.declared.status.Status.{Status}
use Rattle.commands.specs.declared.status.Status.TheVariants.{Usage, ReadFault, WriteFault, BadInput, Memory}
use Rattle.commands.specs.declared.status.Bad.TheVariants.{Session, EmptyFile, TooBig, CoinsEnded}

-- of the words
abbrev pub of_words : WordsFault → Status
of_words Formless = Usage
of_words NoMemoryForWords = Memory

-- of a database that can't be loaded
abbrev pub of_load : LoadFault → Status
of_load NoBytes = BadInput EmptyFile
of_load (TooManyBytes limit) = BadInput (TooBig limit)
of_load Unloadable = ReadFault
of_load NoRoom = Memory

-- of a fetch
abbrev pub of_fetch : FetchFault → Status
of_fetch CoinsFault = ReadFault
of_fetch (TooFewCoins taken) = BadInput (CoinsEnded taken)
of_fetch NoMemory = Memory

-- of a replay
abbrev pub of_replay : ReplayFault → Status
of_replay Unreadable = ReadFault
of_replay (BadSession place) = BadInput (Session place)
of_replay Unfinished = Memory

-- of a splitting
abbrev pub of_split : SplitFault → Status
of_split NoCoins = ReadFault
of_split (FewCoins taken) = BadInput (CoinsEnded taken)
of_split ShareFault = WriteFault
of_split NoMemoryToSplit = Memory
