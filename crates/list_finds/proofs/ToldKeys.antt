-- The answers to the keys of a query, one after the other.
use Rattle.std.proofs.Common.{◌≡◌, ◌∙◌, ℕ, ◌+◌, ◌-◌, ◌<◌, List, [], ◌∷◌, ◌++◌, length, take, get_or, replicate, inl, inr, refl, sym, ap, subst, length-append, append_assoc, arith}
use Rattle.std.specs.Prelude.{Option, None, slice_index_or}
use Rattle.std.proofs.Math.ListN.{get_or-append}
use Rattle.std.proofs.Math.Seq.{get_or-append_seam}
use Rattle.std.proofs.lemmas.Bool.{cases_eq}
use Rattle.std.proofs.lemmas.List.{append-nil, get_or-replicate, length-replicate, length-take-le, replicate-append-replicate, take_more}
use Rattle.std.proofs.lemmas.List.Elements.{All-contains}
use Rattle.key_table.specs.Entry.{IsPair}
use Rattle.key_table.specs.Looked.{pair}
use Rattle.list_finds.specs.Answers.{AnswersBy, AnswersInRow, AreAnswers, ValueFits, row_at}
use Rattle.list_finds.specs.Held.{Held}
use Rattle.list_finds.specs.Known.{digest_in}
use Rattle.list_finds.specs.Told.{Tells, TellsNone}
use Rattle.list_finds.specs.declared.answers.Answer.{Answer}
use Rattle.list_finds.specs.declared.answers.Answer.TheVariants.{Unknown, Broken, Absent, Present}
use Rattle.list_finds.specs.declared.known_list.KnownList.{KnownList}

-- a value that stands in a row has no more bytes than values of the list
pub value_fits : (list : KnownList) (rows : ℕ) (row key : List ℕ) (answer : Answer (List ℕ))
    → AnswersInRow list rows row key answer → ValueFits list.most answer
value_fits list rows row key Unknown is = omega arith
value_fits list rows row key Broken is = omega arith
value_fits list rows row key Absent is = omega arith
value_fits list rows row key (Present value) is =
    (All-contains (IsPair list.size list.most) is.0 (pair (digest_in list key) value) is.1.may.each is.2).is_value.few

module _ (list : KnownList) (rows width : ℕ) (block : Option (List ℕ)) where
  -- what is said of a place, a key and an answer is said of these too
  moved : (p q : ℕ) (k m : List ℕ) (a b : Answer (List ℕ)) → p ≡ q → k ≡ m → a ≡ b
      → AnswersBy list rows (row_at width block q) m b → AnswersBy list rows (row_at width block p) k a
  moved p q k m a b x y z h =
      subst (λ (n : ℕ). AnswersBy list rows (row_at width block n) k a) (sym x)
      (subst (λ (l : List ℕ). AnswersBy list rows (row_at width block q) l a) (sym y)
      (subst (λ (v : Answer (List ℕ)). AnswersBy list rows (row_at width block q) m v) (sym z) h))

  -- the answer to one more key
  answers_more : (keys : List (List ℕ)) (answers : List (Answer (List ℕ))) (key : List ℕ) (answer : Answer (List ℕ))
      → AreAnswers list rows width block keys answers → AnswersBy list rows (row_at width block (length keys)) key answer
      → AreAnswers list rows width block (keys ++ key ∷ []) (answers ++ answer ∷ [])
  answers_more keys answers key answer are last = record {
    count = let c = are.count in omega (arith, c, length-append keys (key ∷ []), length-append answers (answer ∷ []));
    each = λ place l. elim (cases_eq place (length keys)) [
      | inl is ↦
          moved place (length keys) (slice_index_or (keys ++ key ∷ []) place []) key (slice_index_or (answers ++ answer ∷ []) place Unknown) answer
          is
          (ap (λ (n : ℕ). get_or (keys ++ key ∷ []) n []) is ∙ get_or-append_seam keys key [] [])
          (ap (λ (n : ℕ). get_or (answers ++ answer ∷ []) n Unknown) (is ∙ sym are.count) ∙ get_or-append_seam answers answer [] Unknown)
          last
      | inr other ↦
          let low : place < length keys = omega (arith, l, other, length-append keys (key ∷ [])) in
          let there : place < length answers = let c = are.count in omega (arith, low, c) in
          moved place place (slice_index_or (keys ++ key ∷ []) place []) (slice_index_or keys place [])
          (slice_index_or (answers ++ answer ∷ []) place Unknown) (slice_index_or answers place Unknown)
          refl (get_or-append keys (key ∷ []) [] place low) (get_or-append answers (answer ∷ []) Unknown place there)
          (are.each place low)
    ];
  }

  -- no answer is told yet
  pub none_told : (held : Held) → Tells list rows width block [] held held
  none_told held = record {
    told = [];
    are = record { count = refl; each = λ place l. absurd (omega arith) };
    answers = sym (append-nil held.answers);
    room = omega arith;
    most = refl;
  }

  -- one more is told
  pub told_more : (keys : List (List ℕ)) (n : ℕ) (old mid new : Held) (answer : Answer (List ℕ)) → n < length keys
      → Tells list rows width block (take n keys) old mid → 0 < mid.room
      → AnswersBy list rows (row_at width block n) (slice_index_or keys n []) answer
      → new ≡ record mid { answers = mid.answers ++ answer ∷ []; room = mid.room - 1 }
      → Tells list rows width block (take (n + 1) keys) old new
  told_more keys n old mid new answer l tells some last is =
      let key = slice_index_or keys n [] in
      let size : length (take n keys) ≡ n = length-take-le n keys (omega (arith, l)) in
      let more : take (n + 1) keys ≡ take n keys ++ key ∷ [] = take_more keys n [] l in
      let are = answers_more (take n keys) tells.told key answer tells.are
      (subst (λ (k : ℕ). AnswersBy list rows (row_at width block k) key answer) (sym size) last) in
      subst (λ (ks : List (List ℕ)). Tells list rows width block ks old new) (sym more) (record {
        told = tells.told ++ answer ∷ [];
        are = are;
        answers = ap (λ (h : Held). h.answers) is ∙ ap (λ (said : List (Answer (List ℕ))). said ++ answer ∷ []) tells.answers
            ∙ append_assoc old.answers tells.told (answer ∷ []);
        room = let r = ap (λ (h : Held). h.room) is in let s = tells.room in
            omega (arith, r, s, some, size, length-append (take n keys) (key ∷ []));
        most = ap (λ (h : Held). h.most) is ∙ tells.most;
      })

-- where the verdict lists no block or several nothing is known of the keys
pub tells_unlisted : (list : KnownList) (rows width : ℕ) (keys : List (List ℕ)) (old new : Held)
    → TellsNone (length keys) old new → Tells list rows width None keys old new
tells_unlisted list rows width keys old new tells = record {
  told = replicate (length keys) Unknown;
  are = record {
    count = length-replicate (length keys) Unknown;
    each = λ place l. get_or-replicate (length keys) place Unknown Unknown l;
  };
  answers = tells.answers;
  room = tells.room;
  most = tells.most;
}

-- nothing is known of one more key
pub none_more : (n : ℕ) (old mid new : Held) → TellsNone n old mid → 0 < mid.room
    → new ≡ record mid { answers = mid.answers ++ Unknown ∷ []; room = mid.room - 1 } → TellsNone (n + 1) old new
none_more n old mid new tells some is = record {
  answers = ap (λ (h : Held). h.answers) is ∙ ap (λ (said : List (Answer (List ℕ))). said ++ Unknown ∷ []) tells.answers
      ∙ append_assoc old.answers (replicate n Unknown) (Unknown ∷ [])
      ∙ ap (λ (said : List (Answer (List ℕ))). old.answers ++ said) (replicate-append-replicate n 1 Unknown);
  room = let r = ap (λ (h : Held). h.room) is in let s = tells.room in omega (arith, r, s, some);
  most = ap (λ (h : Held). h.most) is ∙ tells.most;
}
