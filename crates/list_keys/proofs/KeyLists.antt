-- The keys of the lines that a reader gives.
use Rattle.std.proofs.Common.{◌≡◌, ℕ, ◌-◌, ◌<◌, ◌≤◌, true, false, List, [], ◌∷◌, ◌++◌, length, sym, ◌∙◌, ap, ap₂, subst, arith}
use Rattle.std.specs.Prelude.{All, Result, Ok, Err}
use Rattle.std.specs.Result.{IsErrAnd}
use Rattle.std.proofs.lemmas.List.{length_push, map_push}
use Rattle.port_trait.specs.World.{World}
use Rattle.list_keys.specs.declared.TheConstants.{MOST_KEYS}
use Rattle.list_keys.specs.declared.form.Form.{Form}
use Rattle.list_keys.specs.declared.form.Terms.{Terms}
use Rattle.list_keys.specs.declared.fault.LinesFault.{LinesFault}
use Rattle.list_keys.specs.declared.fault.LinesFault.TheVariants.{Memory, NoLine, ReadFault, Refused}
use Rattle.list_keys.specs.Form.{IsGood, key_of}
use Rattle.list_keys.specs.Keys.{AreKeys, KeysSoFar, ReadsKeys, keys_terms}
use Rattle.list_keys.specs.Reading.{FailsToGive, GivesNext, HasRead, Reading}

module _ (form : Form) where
  -- no line was given
  pub keys_none : (reader : Reading) (keys : List (List ℕ)) (w : World) → keys ≡ [] → reader.terms ≡ keys_terms form → HasRead reader [] w w
      → KeysSoFar form keys reader w w
  keys_none reader keys w is terms read = record { given = []; terms = terms; read = read; are = is }

  module _ (keys : List (List ℕ)) (old new : Reading) (start w v : World) (h : KeysSoFar form keys old start w) (same : new.terms ≡ old.terms) where
    terms_are : new.terms ≡ keys_terms form
    terms_are = same ∙ h.terms

    -- one more was
    pub keys_more : (more : List (List ℕ)) (key : List ℕ) → GivesNext old (Ok true) new w v → more ≡ keys ++ key ∷ []
        → key ≡ key_of new.terms.form new.window.line → KeysSoFar form more new start v
    keys_more more key gives is key_is =
        let line = new.window.line in
        let last : key ≡ key_of form line = key_is ∙ ap (λ (t : Terms). key_of t.form line) terms_are in
        record {
          given = h.given ++ line ∷ [];
          terms = terms_are;
          read = gives h.given start h.read;
          are = is ∙ ap₂ (λ ks k. ks ++ k ∷ []) h.are last ∙ sym (map_push (key_of form) h.given line);
        }

    -- so fewer may come
    pub keys_fewer : GivesNext old (Ok true) new w v → MOST_KEYS - new.number < MOST_KEYS - old.number
    keys_fewer gives =
        let read = gives h.given start h.read in
        let few : length (h.given ++ new.window.line ∷ []) ≤ MOST_KEYS = subst (λ (t : Terms). length (h.given ++ new.window.line ∷ []) ≤ t.most) terms_are read.few in
        omega (arith, few, read.number, h.read.number, length_push h.given new.window.line)

    -- there is no memory for its key
    pub keys_short : (result : Result (List (List ℕ)) LinesFault) (fault : LinesFault) → result ≡ Err fault → fault ≡ Memory
        → GivesNext old (Ok true) new w v → ReadsKeys form result start v
    keys_short result fault is memory gives =
        let read = gives h.given start h.read in
        let err : LinesFault → Result (List (List ℕ)) LinesFault = λ f. Err f in
        subst (λ r. ReadsKeys form r start v) (sym (is ∙ ap err memory)) (read.window.read, read.window.reads)

    -- a fault of the lines is one of the keys
    of_fault : (fault : LinesFault) → FailsToGive (keys_terms form) fault start v → ReadsKeys form (Err fault) start v
    of_fault ReadFault fails = fails
    of_fault NoLine fails = fails
    of_fault (Refused number fault) fails = fails
    of_fault Memory fails = absurd fails

    -- there is a fault
    pub keys_failed : (result : Result (List (List ℕ)) LinesFault) (fault : LinesFault) → IsErrAnd result (λ told. told ≡ fault)
        → GivesNext old (Err fault) new w v → ReadsKeys form result start v
    keys_failed (Ok found) fault is gives = absurd is
    keys_failed (Err told) fault is gives =
        subst (λ (f : LinesFault). ReadsKeys form (Err f) start v) (sym is)
        (of_fault fault (subst (λ (t : Terms). FailsToGive t fault start v) terms_are (gives h.given start h.read)))

    -- all were given
    pub keys_all : GivesNext old (Ok false) new w v → AreKeys form keys start v
    keys_all gives =
        let all = gives h.given start h.read in
        record {
          given = h.given;
          all = all.2;
          good = subst (λ (t : Terms). All (IsGood t.form) h.given) h.terms h.read.good;
          some = all.0;
          few = subst (λ (t : Terms). length h.given ≤ t.most) h.terms h.read.few;
          are = h.are;
        }
