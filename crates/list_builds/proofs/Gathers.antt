-- A list that is gathered line by line.
use Rattle.std.proofs.Common.{◌≡◌, ℕ, ◌+◌, ◌-◌, ◌<◌, ◌≤◌, true≢false, List, [], ◌∷◌, ◌++◌, length, sym, ap, ap₂, subst, ◌∙◌, arith}
use Rattle.std.specs.Prelude.{All, Bool, true, false, max, Ok, Err, Result}
use Rattle.std.specs.Result.{IsErrAnd}
use Rattle.std.proofs.lemmas.List.{length-map, length_push, map-append}
use Rattle.std.proofs.lemmas.List.Elements.{All-nil, All-push}
use Rattle.port_trait.specs.World.{World}
use Rattle.key_table.specs.Entry.{Pair}
use Rattle.key_table.specs.Held.{Held}
use Rattle.key_table.specs.declared.TheConstants.{MOST_PAIRS, MOST_VALUE}
use Rattle.list_keys.specs.Form.{AreTerms, IsForm, IsGood, IsWhole, key_of, most_value, value_of}
use Rattle.list_keys.specs.Reading.{FailsToGive, Gives, GivesAll, HasRead, Reading}
use Rattle.list_keys.specs.declared.form.Form.{Form}
use Rattle.list_keys.specs.declared.form.Form.TheVariants.{Key, KeyWithoutTab, KeyAndValue}
use Rattle.list_keys.specs.declared.form.Terms.{Terms}
use Rattle.list_keys.specs.declared.fault.LinesFault.{LinesFault}
use Rattle.list_keys.specs.declared.fault.LinesFault.TheVariants.{Memory, NoLine, ReadFault, Refused}
use Rattle.list_builds.specs.Listing.{longest_of, pair_of, pairs_of}
use Rattle.list_builds.specs.Gathering.{Gathered, Gathers, GathersAll, GathersList, HasGathered, with_pair}
use Rattle.list_builds.proofs.Longest.{longest_next}

-- no line is gathered
pub gathers_none : (salt : List ℕ) (size : ℕ) (form : Form) (list : Gathered)
    → list ≡ record { held = record { size = size; pairs = [] }; longest = 0; returns = true }
    → Gathers salt size form [] list.held list.longest
unfolding longest_of
gathers_none salt size form list is = record { held_is = ap (λ (g : Gathered). g.held) is; longest_is = ap (λ (g : Gathered). g.longest) is }

-- so many pairs are gathered as lines
pub count_gathered : (salt : List ℕ) (size : ℕ) (form : Form) (given : List (List ℕ)) (held : Held) (longest : ℕ)
    → Gathers salt size form given held longest → length held.pairs ≡ length given
count_gathered salt size form given held longest h =
    ap (λ (list : Held). length list.pairs) h.held_is ∙ length-map given (pair_of salt size form)

-- one more line is gathered
pub gathers_next : (salt : List ℕ) (size : ℕ) (form : Form) (given : List (List ℕ)) (line key value : List ℕ) (old new : Gathered)
    → key ≡ key_of form line → value ≡ value_of form line → new ≡ with_pair salt key value old
    → Gathers salt size form given old.held old.longest → Gathers salt size form (given ++ line ∷ []) new.held new.longest
gathers_next salt size form given line key value old new key_is value_is is h =
    let next : with_pair salt (key_of form line) (value_of form line) old ≡ new
    = ap₂ (λ k v. with_pair salt k v old) (sym key_is) (sym value_is) ∙ sym is in
    let more = map-append (pair_of salt size form) given (line ∷ []) in
    record {
      held_is = ap (λ (g : Gathered). g.held) (sym next)
          ∙ ap (λ (held : Held). (with_pair salt (key_of form line) (value_of form line) (record old { held = held })).held) h.held_is
          ∙ ap (λ (pairs : List Pair). record { size = size; pairs = pairs }) (sym more);
      longest_is = ap (λ (g : Gathered). g.longest) (sym next) ∙ ap (λ n. max n (length (value_of form line))) h.longest_is
          ∙ sym (longest_next (pairs_of salt size form given) (pair_of salt size form line)) ∙ ap longest_of (sym more);
    }

-- why not all lines are given is why the list isn't gathered
pub fails_to_gather : (salt : List ℕ) (size : ℕ) (terms : Terms) (fault : LinesFault) (start now : World)
    → FailsToGive terms fault start now → GathersList salt size terms (Err fault) start now
fails_to_gather salt size terms ReadFault start now h = h
fails_to_gather salt size terms NoLine start now h = h
fails_to_gather salt size terms (Refused number fault) start now h = h
fails_to_gather salt size terms Memory start now h = absurd h

-- nothing is given and gathered
pub gathered_none : (salt : List ℕ) (size : ℕ) (terms : Terms) (list : Gathered) (reader : Reading) (w : World)
    → list ≡ record { held = record { size = size; pairs = [] }; longest = 0; returns = true }
    → reader.terms ≡ terms → HasRead reader [] w w → HasGathered salt size terms list reader w w
gathered_none salt size terms list reader w is same read = record {
  given = [];
  read = read;
  terms_are = same;
  whole = All-nil (IsWhole terms.form);
  gathers = gathers_none salt size terms.form list is;
}

-- how many lines a reader of these terms has given
few_by : (terms : Terms) (reader : Reading) (given : List (List ℕ)) (start now : World) → reader.terms ≡ terms → HasRead reader given start now
    → length given ≤ terms.most
few_by terms reader given start now same h = subst (λ (t : Terms). length given ≤ t.most) same h.few

-- one more line is given: there is room for its pair
pub has_room : (salt : List ℕ) (size : ℕ) (terms : Terms) (list : Gathered) (old reader : Reading) (start mid now : World) → AreTerms terms
    → reader.terms ≡ terms → (h : HasGathered salt size terms list old start mid) → HasRead reader (h.given ++ reader.window.line ∷ []) start now
    → length list.held.pairs < MOST_PAIRS
has_room salt size terms list old reader start mid now are same h read =
    let few = few_by terms reader (h.given ++ reader.window.line ∷ []) start now same read in
    omega (arith, count_gathered salt size terms.form h.given list.held list.longest h.gathers, few, are.few, length_push h.given reader.window.line)

-- no form allows a longer value than a list may have
form_fits : (form : Form) → IsForm form → most_value form ≤ MOST_VALUE
form_fits Key is = omega arith
form_fits KeyWithoutTab is = omega arith
form_fits (KeyAndValue most) is = is

-- so the value of a whole line is no longer than may be
pub short_value : (terms : Terms) (reader : Reading) → AreTerms terms → reader.terms ≡ terms → IsWhole reader.terms.form reader.window.line
    → length (value_of reader.terms.form reader.window.line) ≤ MOST_VALUE
short_value terms reader are same whole =
    let most = subst (λ (t : Terms). most_value t.form ≤ MOST_VALUE) (sym same) (form_fits terms.form are.form) in
    omega (arith, whole.value.few, most)

-- and it is gathered
pub gathered_next : (salt : List ℕ) (size : ℕ) (terms : Terms) (list next : Gathered) (key value : List ℕ) (old reader : Reading) (start mid now : World)
    → reader.terms ≡ terms → key ≡ key_of reader.terms.form reader.window.line → value ≡ value_of reader.terms.form reader.window.line
    → next ≡ with_pair salt key value list → (h : HasGathered salt size terms list old start mid)
    → HasRead reader (h.given ++ reader.window.line ∷ []) start now → IsWhole reader.terms.form reader.window.line
    → HasGathered salt size terms next reader start now
gathered_next salt size terms list next key value old reader start mid now same key_is value_is is h read whole =
    let line = reader.window.line in
    record {
      given = h.given ++ line ∷ [];
      read = read;
      terms_are = same;
      whole = All-push (IsWhole terms.form) h.given line h.whole (subst (λ (t : Terms). IsWhole t.form line) same whole);
      gathers = gathers_next salt size terms.form h.given line key value list next
          (key_is ∙ ap (λ (t : Terms). key_of t.form line) same) (value_is ∙ ap (λ (t : Terms). value_of t.form line) same) is h.gathers;
    }

-- all lines are given and gathered
pub gathered_all : (salt : List ℕ) (size : ℕ) (terms : Terms) (list : Gathered) (returns : Bool) (old reader : Reading) (start mid now : World)
    → reader.terms ≡ terms → returns ≡ reader.returns → (h : HasGathered salt size terms list old start mid)
    → 0 < length h.given → HasRead reader h.given start now → GivesAll h.given start now
    → GathersAll salt size terms (record list { returns = returns }) start now
gathered_all salt size terms list returns old reader start mid now same returns_are h some read all =
    record {
      given = h.given;
      all = all;
      good = subst (λ (t : Terms). All (IsGood t.form) h.given) same read.good;
      whole = h.whole;
      some = some;
      few = few_by terms reader h.given start now same read;
      gathers = h.gathers;
      returns = returns_are ∙ read.returns;
    }

-- what a reader that gave a line has read
pub gives_more : (b : Bool) (reader : Reading) (given : List (List ℕ)) (start now : World) → b ≡ true → Gives (Ok b) reader given start now
    → HasRead reader (given ++ reader.window.line ∷ []) start now
gives_more true reader given start now is h = h
gives_more false reader given start now is h = absurd (true≢false (sym is))

-- and one that has given all
pub gives_all : (b : Bool) (reader : Reading) (given : List (List ℕ)) (start now : World) → b ≡ false → Gives (Ok b) reader given start now
    → (0 < length given) × HasRead reader given start now × GivesAll given start now
gives_all true reader given start now is h = absurd (true≢false is)
gives_all false reader given start now is h = h

-- fewer lines may follow
pub fewer_follow : (salt : List ℕ) (size : ℕ) (terms : Terms) (list : Gathered) (old reader : Reading) (start mid now : World)
    → reader.terms ≡ terms → (h : HasGathered salt size terms list old start mid) → HasRead reader (h.given ++ reader.window.line ∷ []) start now
    → terms.most - reader.number < terms.most - old.number
fewer_follow salt size terms list old reader start mid now same h read =
    let few = few_by terms reader (h.given ++ reader.window.line ∷ []) start now same read in
    omega (arith, few, read.number, h.read.number, length_push h.given reader.window.line)

-- why not all lines are given is why the list isn't gathered
pub told_fails : (salt : List ℕ) (size : ℕ) (terms own : Terms) (fault : LinesFault) (r : Result Gathered LinesFault) (start now : World)
    → own ≡ terms → IsErrAnd r (λ told. told ≡ fault) → FailsToGive own fault start now → GathersList salt size terms r start now
told_fails salt size terms own fault (Ok list) start now same is h = absurd is
told_fails salt size terms own fault (Err told) start now same is h =
    subst (λ (f : LinesFault). GathersList salt size terms (Err f) start now) (sym is)
    (fails_to_gather salt size terms fault start now (subst (λ (t : Terms). FailsToGive t fault start now) same h))

-- where memory ran out, a part of Input was read
pub told_memory : (salt : List ℕ) (size : ℕ) (terms : Terms) (r : Result Gathered LinesFault) (fault : LinesFault) (reader : Reading)
    (given : List (List ℕ)) (start now : World) → r ≡ Err fault → fault ≡ Memory → HasRead reader given start now
    → GathersList salt size terms r start now
told_memory salt size terms r fault reader given start now is out h =
    subst (λ (told : Result Gathered LinesFault). GathersList salt size terms told start now) (sym (is ∙ ap Err out)) (h.window.read, h.window.reads)
