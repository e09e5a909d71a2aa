-- What was read of Input and given as lines, through the calls of a reader.
use Rattle.std.proofs.Common.{◌≡◌, ◌⊎◌, inl, inr, ℕ, ◌+◌, ◌<◌, ◌≤◌, Bool, true, false, not, List, [], ◌∷◌, ◌++◌, length, take, drop, refl, sym, ◌∙◌, ap, subst, arith}
use Rattle.std.specs.Prelude.{All, Option, None, Some, IfSome}
use Rattle.std.proofs.lemmas.Bool.{both_ways, cases_lt}
use Rattle.std.proofs.lemmas.List.{append-nil, append_assoc, drop_all, take-append-drop, take_all}
use Rattle.std.proofs.lemmas.List.Sums.{prefix_len-le-length}
use Rattle.std.specs.List.{after_first, before_first, position_or_len}
use Rattle.port_trait.specs.World.{Cell, World}
use Rattle.port_trait.specs.Number.{INPUT}
use Rattle.port_trait.specs.Moves.{Fails, Hands, RoseOnce, counted}
use Rattle.port_trait.specs.Whole.{FailsAfter, IsPrefix}
use Rattle.port_trait.proofs.Cells.{reads_end, reads_more, took_none}
use Rattle.list_keys.specs.declared.form.Terms.{Terms}
use Rattle.list_keys.specs.declared.fault.LineFault.{LineFault}
use Rattle.list_keys.specs.Form.{AreTerms, IsFirstFault, IsGood, refusal_of}
use Rattle.list_keys.specs.Lines.{is_newline, lines}
use Rattle.list_keys.specs.Reading.{GivesAll}
use Rattle.list_keys.specs.Taking.{behind}
use Rattle.list_keys.specs.Window.{EndsAt, HasGiven, Window}
use Rattle.list_keys.proofs.Faults.{refusal_kept}
use Rattle.list_keys.proofs.Splits.{lines_long, lines_next}

-- nothing was read
pub given_none : (window : Window) (w : World) → window.rest ≡ [] → window.ended ≡ false → HasGiven window [] w w
given_none window w empty fresh = record {
  read = [];
  reads = record { cell = sym (took_none (w.at INPUT)); told = no_bytes (w.at INPUT).holds };
  are = λ more closed. ap (λ rest. lines (rest ++ more)) (sym empty);
  all = λ ended. absurd (both_ways window.ended fresh ended);
}
  where
    no_bytes : (o : Option (List ℕ)) → IfSome o (IsPrefix [])
    no_bytes None = tt
    no_bytes (Some held) = record { there = omega arith; bytes = refl }

-- more bytes came
pub given_more : (before after : Window) (n : ℕ) (sub ys : List ℕ) (given : List (List ℕ)) (start v u : World)
    → length ys ≡ length sub → after.rest ≡ before.rest ++ take n ys → before.ended ≡ false → (after.ended ≡ true → n ≡ 0)
    → Hands INPUT n sub ys v u → (n ≡ 0 → IfSome (v.at INPUT).holds (λ h. h ≡ [])) → HasGiven before given start v
    → HasGiven after given start u
given_more before after n sub ys given start v u same rest fresh ends hands last h = record {
  read = h.read ++ take n ys;
  reads = reads_more INPUT n h.read sub ys start v u same h.reads hands;
  are = λ more closed.
      ap lines (append_assoc h.read (take n ys) more)
      ∙ h.are (take n ys ++ more) (λ e. absurd (both_ways before.ended fresh e))
      ∙ ap (λ text. given ++ lines text) (sym (append_assoc before.rest (take n ys) more) ∙ ap (λ text. text ++ more) (sym rest));
  all = λ ended.
      let none = ends ended in
      let end = reads_end INPUT n h.read sub ys start v u h.reads hands none (last none) in
      let whole : h.read ++ take n ys ≡ h.read = ap (λ k. h.read ++ take k ys) none ∙ append-nil h.read in
      subst (λ (read : List ℕ). IfSome (start.at INPUT).holds (λ held. read ≡ held)) (sym whole) end.1;
}

-- a call failed
pub given_fails : (window : Window) (given : List (List ℕ)) (start v u : World) → Fails INPUT v u → HasGiven window given start v → FailsAfter INPUT start u
given_fails window given start v u fails h = record {
  n = length h.read;
  cell = fails.cell ∙ ap (counted (u.at INPUT).faults) h.reads.cell;
  held = there (start.at INPUT).holds h.reads.told;
  rose = subst (λ (k : ℕ). RoseOnce k (u.at INPUT).faults) (ap (λ (c : Cell). c.faults) h.reads.cell) fails.rose;
}
  where
    there : (o : Option (List ℕ)) → IfSome o (IsPrefix h.read) → IfSome o (λ held. length h.read ≤ length held)
    there None told = tt
    there (Some held) told = told.there

-- one more line is given
pub given_next : (window : Window) (at : ℕ) (given : List (List ℕ)) (start now : World) → 0 < length window.rest
    → at ≡ position_or_len is_newline window.rest → (at < length window.rest) ⊎ (window.ended ≡ true)
    → HasGiven window given start now → HasGiven (behind at window) (given ++ take at window.rest ∷ []) start now
given_next window at given start now some is settled h = record {
  read = h.read;
  reads = h.reads;
  are = λ more closed.
      let line = take at window.rest in
      let rest = lines (drop (at + 1) window.rest ++ more) in
      h.are more closed
      ∙ ap (λ text. given ++ text) (lines_next window.rest more at some is (elim settled [ inl lt ↦ inl lt | inr ended ↦ inr (closed ended) ]))
      ∙ sym (append_assoc given (line ∷ []) rest);
  all = h.all;
}

-- what holds whatever follows holds of what the port held
of_held : (P : List ℕ → Type 0) (o : Option (List ℕ)) (read : List ℕ) (ended : Bool) → IfSome o (IsPrefix read)
    → (ended ≡ true → IfSome o (λ held. read ≡ held)) → ((more : List ℕ) → (ended ≡ true → more ≡ []) → P (read ++ more)) → IfSome o P
of_held P None read ended prefix all holds = tt
of_held P (Some held) read ended prefix all holds =
    let more = drop (length read) held in
    let whole : read ++ more ≡ held = ap (λ text. text ++ more) prefix.bytes ∙ take-append-drop (length read) held in
    subst P whole (holds more (λ e. ap (drop (length read)) (sym (all e)) ∙ drop_all (length read) read (omega arith)))

-- the next line is refused
pub given_refused : (terms : Terms) (window : Window) (at : ℕ) (given : List (List ℕ)) (fault : LineFault) (start now : World)
    → AreTerms terms → 0 < length window.rest → EndsAt window at → All (IsGood terms.form) given → length given ≤ terms.most
    → refusal_of terms (length given + 1) (take at window.rest) ≡ Some fault → HasGiven window given start now
    → IfSome (start.at INPUT).holds (λ held. IsFirstFault terms (lines held) (length given + 1) fault)
given_refused terms window at given fault start now are some ends good few refused h =
    of_held (λ held. IsFirstFault terms (lines held) (length given + 1) fault) (start.at INPUT).holds h.read window.ended h.reads.told h.all
    (λ more closed. elim (cases_lt at (length window.rest)) [
      | inl lt ↦ first more closed (inl lt)
      | inr all ↦ elim ends.settled [
        | inl lt ↦ first more closed (inl lt)
        | inr (inl ended) ↦ first more closed (inr (closed ended))
        | inr (inr long) ↦
            let size : at ≡ length window.rest = omega (arith, all, ends.is, prefix_len-le-length (λ b. not (is_newline b)) window.rest) in
            let line = window.rest ++ before_first is_newline more in
            let kept = refusal_kept terms (length given + 1) window.rest (before_first is_newline more) are.form (omega (arith, long, size)) in
            let whole : take at window.rest ≡ window.rest = take_all at window.rest (omega (arith, all)) in
            record {
              before = given;
              line = line;
              behind = lines (after_first is_newline (window.rest ++ more));
              are = h.are more closed ∙ ap (λ text. given ++ text) (lines_long window.rest more some (sym ends.is ∙ size));
              good = good;
              few = few;
              number_is = refl;
              refused = kept.2 ∙ sym kept.1 ∙ ap (refusal_of terms (length given + 1)) (sym whole) ∙ refused;
            }
      ]
    ])
  where
    first : (more : List ℕ) → (window.ended ≡ true → more ≡ []) → (at < length window.rest) ⊎ (more ≡ []) → IsFirstFault terms (lines (h.read ++ more)) (length given + 1) fault
    first more closed where_ends = record {
      before = given;
      line = take at window.rest;
      behind = lines (drop (at + 1) window.rest ++ more);
      are = h.are more closed ∙ ap (λ text. given ++ text) (lines_next window.rest more at some ends.is where_ends);
      good = good;
      few = few;
      number_is = refl;
      refused = refused;
    }

-- where nothing is unread and no more comes, all lines are given
pub given_all : (window : Window) (given : List (List ℕ)) (start now : World) → window.rest ≡ [] → window.ended ≡ true → HasGiven window given start now → GivesAll given start now
unfolding lines
given_all window given start now empty ended h = record {
  read = h.read;
  reads = h.reads;
  all = h.all ended;
  are = ap lines (sym (append-nil h.read)) ∙ h.are [] (λ e. refl) ∙ ap (λ text. given ++ lines (text ++ [])) empty ∙ append-nil given;
}
