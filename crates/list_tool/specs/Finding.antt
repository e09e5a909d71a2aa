-- What `find` does to the outside, step by step, by what it answers.
use Rattle.std.specs.Prelude.{◌≡◌, ℕ, List, [], ◌∷◌, option_map, Result, Ok, Err}
use Rattle.port_trait.specs.World.{World}
use Rattle.port_trait.specs.Number.{DATABASE, INPUT, OUTPUT}
use Rattle.port_trait.specs.Moves.{Touches}
use Rattle.port_trait.specs.Touched.{One, TouchesOnly}
use Rattle.port_trait.specs.Written.{Written}
use Rattle.port_trait.specs.declared.port.Failed.{Failed}
use Rattle.list_catalog.specs.Facts.{Facts}
use Rattle.list_catalog.specs.Serving.{Serving, with_options}
use Rattle.list_catalog.specs.declared.fault.ServersFault.{ServersFault}
use Rattle.list_words.specs.Values.{addresses_of}
use Rattle.list_words.specs.declared.asked.Find.{Find}
use Rattle.list_tool.specs.Asking.{Asks, table_for, wanted_for}
use Rattle.list_tool.specs.KeysFile.{ReadsKeysFile, form_for}
use Rattle.list_tool.specs.Loading.{LoadsCatalog}
use Rattle.list_tool.specs.Looked.{Looked, NamesRow}
use Rattle.list_tool.specs.Text.{text_of, value_text}
use Rattle.list_tool.specs.declared.table.ListTable.{ListTable}
use Rattle.list_tool.specs.declared.fault.FindFault.{FindFault}
use Rattle.list_tool.specs.declared.fault.FindFault.TheVariants.{Catalog, Servers, Keys, Fetch, WriteFault, Memory}

-- Input was read to its end, and these are the keys in its file
pub record HasKeys (order : Find) (table : ListTable) (keys : List (List ℕ)) (old new : World) : Type 0 where
  pub reads : ReadsKeysFile order.keys.now (form_for table.list.most) (Ok keys) old new
  pub others : Touches INPUT old new

-- the keys were read, every server was asked in each query, the broken row that came is named, if there is one, and then the
-- lines of the keys were written, or a proper prefix of them until a call failed
pub record Tells (order : Find) (table : ListTable) (servers : Serving) (looked : Looked) (written : Result (Unit {0}) Failed) (old new : World) : Type 0 where
  pub keys : List (List ℕ)
  pub read : World
  pub asked : World
  pub has_keys : HasKeys order table keys old read
  pub asks : Asks (wanted_for table servers keys) order.coins.now (Ok looked.come) read asked
  pub row : NamesRow table keys looked.come looked.row
  pub text : Written OUTPUT (text_of (value_text table.list.most order.hex) keys looked.come.answers) written asked new
  pub others : Touches OUTPUT asked new

-- the keys were read, and the rows of them weren't fetched
pub record FailsToAsk (order : Find) (table : ListTable) (servers : Serving) (fault : FindFault) (old new : World) : Type 0 where
  pub keys : List (List ℕ)
  pub read : World
  pub has_keys : HasKeys order table keys old read
  pub asks : Asks (wanted_for table servers keys) order.coins.now (Err fault) read new

-- what looking up keys answers, once the table and the servers are known. For want of memory no server is asked
abbrev pub AnswersTo : Find → ListTable → Serving → Result Looked FindFault → World → World → Type 0
AnswersTo order table servers (Ok looked) old new = Tells order table servers looked (Ok tt) old new
AnswersTo order table servers (Err (Keys fault)) old new =
    ReadsKeysFile order.keys.now (form_for table.list.most) (Err fault) old new × Touches INPUT old new
AnswersTo order table servers (Err (Fetch fault)) old new = FailsToAsk order table servers (Fetch fault) old new
AnswersTo order table servers (Err WriteFault) old new =
    (looked : Looked) × (failed : Failed) × Tells order table servers looked (Err failed) old new
AnswersTo order table servers (Err Memory) old new = Touches INPUT old new
AnswersTo order table servers (Err (Catalog fault)) old new = ⊥
AnswersTo order table servers (Err (Servers fault)) old new = ⊥

-- Database was opened by its name, and its file has this catalog
pub record HasCatalog (order : Find) (facts : Facts) (old new : World) : Type 0 where
  pub loads : LoadsCatalog DATABASE order.catalog.now (Ok facts) old new
  pub others : Touches DATABASE old new

-- what the options and the catalog say of servers
abbrev pub servers_by : Find → Facts → Result Serving ServersFault
servers_by order facts = with_options facts.servers (option_map (λ t. addresses_of t.now) order.servers) order.degree order.agree

-- the catalog was read, it and the options name servers, and then the keys were looked up
pub record LooksUp (order : Find) (result : Result Looked FindFault) (old new : World) : Type 0 where
  pub facts : Facts
  pub servers : Serving
  pub read : World
  pub has_catalog : HasCatalog order facts old read
  pub named : servers_by order facts ≡ Ok servers
  pub answers : AnswersTo order (table_for facts) servers result read new

-- no port but those of the catalog and the keys is touched
abbrev pub TouchesFiles : World → World → Type 0
TouchesFiles old new = TouchesOnly (One DATABASE ∷ One INPUT ∷ []) old new

-- what `find` answers, and what it did then. For want of memory, but in a search that has begun, no server is asked and nothing
-- is written
abbrev pub FindsInList : Find → Result Looked FindFault → World → World → Type 0
FindsInList order (Err (Catalog fault)) old new =
    LoadsCatalog DATABASE order.catalog.now (Err fault) old new × Touches DATABASE old new
FindsInList order (Err (Servers fault)) old new =
    (facts : Facts) × HasCatalog order facts old new × (servers_by order facts ≡ Err fault)
FindsInList order (Err Memory) old new = TouchesFiles old new
FindsInList order result old new = LooksUp order result old new
