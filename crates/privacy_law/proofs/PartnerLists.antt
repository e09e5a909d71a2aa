-- Partners of the coins for several blocks, block by block.
use Rattle.std.proofs.Common.{drop, ◌≡◌, ◌≢◌, ℕ, ◌+◌, ◌-◌, ◌*◌, ◌<◌, ◌≤◌, List, ◌++◌, length, get_or, All, Contains, inl, inr, sym, subst, ap, ◌∙◌, arith}
use Rattle.std.proofs.lemmas.Bool.{cases_eq}
use Rattle.shamir_share.specs.Query.{query}
use Rattle.chor_xor.specs.Bitmap.{bitmap, size_of, unit_byte}
use Rattle.wire_frames.specs.Turns.{in_turn, piece}
use Rattle.wire_frames.proofs.Turns.{All-in_turn, in_turn-more, in_turn-pieces, in_turn-same, length-in_turn, length-piece, piece-in_turn, piece_fits}
use Rattle.std.proofs.lemmas.List.Elements.{All-drop, All-take}
use Rattle.privacy_law.specs.Bijection.{AreCoins, IsBijection}
use Rattle.privacy_law.specs.Hiding.{hiding}
use Rattle.privacy_law.specs.Partner.{partner, partner_list, partner_xor, partner_xor_list}
use Rattle.privacy_law.proofs.ChangedPieces.{length-added}
use Rattle.privacy_law.proofs.ChangedRows.{above}
use Rattle.privacy_law.proofs.SameQueries.{AreCoins-partner, same_query, partner_back}
use Rattle.privacy_law.proofs.SameBitmaps.{AreCoins-xor, same_bitmap, xor_back, xor_flips, xor_stays}

-- a change of each piece that keeps its length
module _ (size n : ℕ) (change : ℕ → List ℕ → List ℕ) (keeps : (i : ℕ) (own : List ℕ) → length (change i own) ≡ length own)
    (coins : List ℕ) (whole : length coins ≡ n * size) where
  abbrev changed : List ℕ
  changed = in_turn n (λ i. change i (piece size i coins))

  own_size : (i : ℕ) → i < n → length (piece size i coins) ≡ size
  own_size i l = length-piece size i coins (omega (arith, piece_fits i n size l, whole))

  pub length-changed : length changed ≡ n * size
  length-changed = length-in_turn n size (λ i. change i (piece size i coins)) (λ i l. keeps i (piece size i coins) ∙ own_size i l)

  -- each is there
  pub changed-at : (i : ℕ) → i < n → piece size i changed ≡ change i (piece size i coins)
  changed-at i l = piece-in_turn n size i (λ i. change i (piece size i coins)) (λ k low. keeps k (piece size k coins) ∙ own_size k low) l

  -- where another change undoes it, that gives the coins back
  pub changed-back : (undo : ℕ → List ℕ → List ℕ) → ((i : ℕ) (own : List ℕ) → undo i (change i own) ≡ own) → in_turn n (λ i. undo i (piece size i changed)) ≡ coins
  changed-back undo undone =
      in_turn-same n (λ i. undo i (piece size i changed)) (λ i. piece size i coins) (λ i l. ap (undo i) (changed-at i l) ∙ undone i (piece size i coins))
      ∙ in_turn-pieces n size coins whole

-- a partner is as long as the coins
pub length-partner : (coins : List ℕ) (t : ℕ) (coalition : List ℕ) (b b2 : ℕ) → length (partner coins t coalition b b2) ≡ length coins
unfolding partner
length-partner coins t coalition b b2 =
    let f = above (hiding coalition) in
    length-added _ t b2 f ∙ length-added coins t b f

-- the partner in the XOR scheme has as many coins
pub length-partner_xor : (coins : List ℕ) (n r left_out b b2 : ℕ) → length (partner_xor coins n r left_out b b2) ≡ length coins
length-partner_xor coins n r left_out b b2 =
    elim (cases_eq left_out n) [
      | inl same ↦ ap length (xor_stays coins n r left_out b b2 same)
      | inr other ↦
          ap length (xor_flips coins n r left_out b b2 other)
          ∙ length-added _ (size_of r) (left_out - 1) (unit_byte b2) ∙ length-added coins (size_of r) (left_out - 1) (unit_byte b)
    ]

-- in Shamir's scheme
module _ (coins : List ℕ) (t r : ℕ) (coalition bs b2s : List ℕ) (whole : length coins ≡ length bs * (r * t)) where
  abbrev change : ℕ → List ℕ → List ℕ
  change i own = partner own t coalition (get_or bs i 0) (get_or b2s i 0)

  keeps : (i : ℕ) (own : List ℕ) → length (change i own) ≡ length own
  keeps i own = length-partner own t coalition (get_or bs i 0) (get_or b2s i 0)

  pub length-list : length (partner_list coins t r coalition bs b2s) ≡ length coins
  unfolding partner_list
  length-list = length-changed (r * t) (length bs) change keeps coins whole ∙ sym whole

  pub list_at : (i : ℕ) → i < length bs → piece (r * t) i (partner_list coins t r coalition bs b2s) ≡ change i (piece (r * t) i coins)
  unfolding partner_list
  list_at i l = changed-at (r * t) (length bs) change keeps coins whole i l

  pub list_back : length b2s ≡ length bs → partner_list (partner_list coins t r coalition bs b2s) t r coalition b2s bs ≡ coins
  unfolding partner_list
  list_back as_many =
      ap (λ (n : ℕ). in_turn n (λ i. partner (piece (r * t) i (partner_list coins t r coalition bs b2s)) t coalition (get_or b2s i 0) (get_or bs i 0))) as_many
      ∙ changed-back (r * t) (length bs) change keeps coins whole (λ i own. partner own t coalition (get_or b2s i 0) (get_or bs i 0))
      (λ i own. partner_back own t coalition (get_or bs i 0) (get_or b2s i 0))

  -- a member is sent the same
  pub list_same : (i a : ℕ) → i < length bs → length coalition ≤ t → All (λ a. a < 256) coalition → All (λ a. a ≢ 0) coalition → Contains coalition a
      → query (piece (r * t) i (partner_list coins t r coalition bs b2s)) t r (get_or b2s i 0) a ≡ query (piece (r * t) i coins) t r (get_or bs i 0) a
  list_same i a l few bytes nonzero member =
      ap (λ own. query own t r (get_or b2s i 0) a) (list_at i l)
      ∙ same_query (piece (r * t) i coins) t r coalition (get_or bs i 0) (get_or b2s i 0) a (length-piece (r * t) i coins (omega (arith, piece_fits i (length bs) (r * t) l, whole)))
      few bytes nonzero member

-- in the XOR scheme
module _ (coins : List ℕ) (n r left_out : ℕ) (bs b2s : List ℕ) (whole : length coins ≡ length bs * ((n - 1) * size_of r)) where
  abbrev size : ℕ
  size = (n - 1) * size_of r

  abbrev flip : ℕ → List ℕ → List ℕ
  flip i own = partner_xor own n r left_out (get_or bs i 0) (get_or b2s i 0)

  flip_keeps : (i : ℕ) (own : List ℕ) → length (flip i own) ≡ length own
  flip_keeps i own = length-partner_xor own n r left_out (get_or bs i 0) (get_or b2s i 0)

  pub length-xor_list : length (partner_xor_list coins n r left_out bs b2s) ≡ length coins
  unfolding partner_xor_list
  length-xor_list = length-changed size (length bs) flip flip_keeps coins whole ∙ sym whole

  pub xor_list_at : (i : ℕ) → i < length bs → piece size i (partner_xor_list coins n r left_out bs b2s) ≡ flip i (piece size i coins)
  unfolding partner_xor_list
  xor_list_at i l = changed-at size (length bs) flip flip_keeps coins whole i l

  pub xor_list_back : length b2s ≡ length bs → partner_xor_list (partner_xor_list coins n r left_out bs b2s) n r left_out b2s bs ≡ coins
  unfolding partner_xor_list
  xor_list_back as_many =
      ap (λ (m : ℕ). in_turn m (λ i. partner_xor (piece size i (partner_xor_list coins n r left_out bs b2s)) n r left_out (get_or b2s i 0) (get_or bs i 0))) as_many
      ∙ changed-back size (length bs) flip flip_keeps coins whole (λ i own. partner_xor own n r left_out (get_or b2s i 0) (get_or bs i 0))
      (λ i own. xor_back own n r left_out (get_or bs i 0) (get_or b2s i 0))

  -- a server but the one left out is sent the same
  pub xor_list_same : (i index : ℕ) → i < length bs → get_or bs i 0 < r → get_or b2s i 0 < r → 1 ≤ left_out → left_out ≤ n → 1 ≤ index → index ≤ n → index ≢ left_out
      → bitmap (piece size i (partner_xor_list coins n r left_out bs b2s)) n r (get_or b2s i 0) index ≡ bitmap (piece size i coins) n r (get_or bs i 0) index
  xor_list_same i index l block other first last index_first index_last ne =
      ap (λ own. bitmap own n r (get_or b2s i 0) index) (xor_list_at i l)
      ∙ same_bitmap (piece size i coins) n r left_out (get_or bs i 0) (get_or b2s i 0) index (length-piece size i coins (omega (arith, piece_fits i (length bs) size l, whole)))
      block other first last index_first index_last ne

-- one partner more
pub one_more : (n m : ℕ) (gives : ℕ → List ℕ) (made next : List ℕ) → m ≡ n + 1 → made ≡ in_turn n gives → next ≡ gives n → made ++ next ≡ in_turn m gives
one_more n m gives made next e so_far is = ap (λ l. l ++ next) so_far ∙ ap (λ l. in_turn n gives ++ l) is ∙ sym (in_turn-more n m gives e)

-- coins stay coins, where each piece's do
module _ (size n : ℕ) (change : ℕ → List ℕ → List ℕ) (stay : (i : ℕ) (own : List ℕ) → AreCoins size own → AreCoins size (change i own)) where
  AreCoins-changed : (coins : List ℕ) → AreCoins (n * size) coins → AreCoins (n * size) (in_turn n (λ i. change i (piece size i coins)))
  AreCoins-changed coins is =
      let own : (i : ℕ) → i < n → AreCoins size (piece size i coins) = λ i l. record {
        size = length-piece size i coins (omega (arith, piece_fits i n size l, is.size));
        bytes = All-take (λ c. c < 256) size (drop (i * size) coins) (All-drop (λ c. c < 256) (i * size) coins is.bytes);
      } in
      record {
        size = length-in_turn n size (λ i. change i (piece size i coins)) (λ i l. (stay i (piece size i coins) (own i l)).size);
        bytes = All-in_turn (λ c. c < 256) n (λ i. change i (piece size i coins)) (λ i l. (stay i (piece size i coins) (own i l)).bytes);
      }

-- so to take partners for several blocks is a bijection
pub IsBijection-list : (t r : ℕ) (coalition bs b2s : List ℕ) → length b2s ≡ length bs → All (λ a. a < 256) coalition → All (λ a. a ≢ 0) coalition
    → IsBijection (length bs * (r * t)) (λ coins. partner_list coins t r coalition bs b2s)
unfolding partner_list
IsBijection-list t r coalition bs b2s as_many bytes nonzero =
    let same : (n : ℕ) (coins : List ℕ) → AreCoins (length bs * (r * t)) coins → AreCoins (length b2s * (r * t)) coins = λ n coins h. subst (λ (m : ℕ). AreCoins (m * (r * t)) coins) (sym as_many) h in
    record {
      inverse = λ coins. partner_list coins t r coalition b2s bs;
      into = λ coins h. AreCoins-changed (r * t) (length bs) (λ i own. partner own t coalition (get_or bs i 0) (get_or b2s i 0))
          (λ i own is. AreCoins-partner (r * t) own t coalition (get_or bs i 0) (get_or b2s i 0) bytes nonzero is) coins h;
      back = λ coins h. subst (λ (m : ℕ). AreCoins (m * (r * t)) (partner_list coins t r coalition b2s bs)) as_many
          (AreCoins-changed (r * t) (length b2s) (λ i own. partner own t coalition (get_or b2s i 0) (get_or bs i 0))
          (λ i own is. AreCoins-partner (r * t) own t coalition (get_or b2s i 0) (get_or bs i 0) bytes nonzero is) coins (same 0 coins h));
      left = λ coins h. list_back coins t r coalition bs b2s h.size as_many;
      right = λ coins h. list_back coins t r coalition b2s bs (same 0 coins h).size (sym as_many);
    }

-- for several blocks in the XOR scheme, to take the partner is a bijection of the coins
pub IsBijection-xor_list : (n r left_out : ℕ) (bs b2s : List ℕ) → length b2s ≡ length bs
    → IsBijection (length bs * ((n - 1) * size_of r)) (λ coins. partner_xor_list coins n r left_out bs b2s)
unfolding partner_xor_list
IsBijection-xor_list n r left_out bs b2s as_many =
    let size = (n - 1) * size_of r in
    let same : (coins : List ℕ) → AreCoins (length bs * size) coins → AreCoins (length b2s * size) coins = λ coins h. subst (λ (m : ℕ). AreCoins (m * size) coins) (sym as_many) h in
    record {
      inverse = λ coins. partner_xor_list coins n r left_out b2s bs;
      into = λ coins h. AreCoins-changed size (length bs) (λ i own. partner_xor own n r left_out (get_or bs i 0) (get_or b2s i 0))
          (λ i own is. AreCoins-xor size own n r left_out (get_or bs i 0) (get_or b2s i 0) is) coins h;
      back = λ coins h. subst (λ (m : ℕ). AreCoins (m * size) (partner_xor_list coins n r left_out b2s bs)) as_many
          (AreCoins-changed size (length b2s) (λ i own. partner_xor own n r left_out (get_or b2s i 0) (get_or bs i 0))
          (λ i own is. AreCoins-xor size own n r left_out (get_or b2s i 0) (get_or bs i 0) is) coins (same coins h));
      left = λ coins h. xor_list_back coins n r left_out bs b2s h.size as_many;
      right = λ coins h. xor_list_back coins n r left_out b2s bs (same coins h).size (sym as_many);
    }
