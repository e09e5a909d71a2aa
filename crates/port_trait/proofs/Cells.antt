-- Moves on one port, one after the other.
use Rattle.std.proofs.Common.{◌≡◌, ℕ, ◌+◌, ◌-◌, ◌<◌, ◌≤◌, List, [], ◌++◌, length, take, drop, refl, sym, ◌∙◌, ap, subst, arith, length-append, length-drop, append_assoc}
use Rattle.std.specs.Prelude.{Option, Some, None, IfSome, Result, Ok, Err, OnErr}
use Rattle.std.specs.Option.{option_map}
use Rattle.std.proofs.lemmas.List.{append-nil, drop-drop, drop_all, take_all, take-append-le, drop_at, length-take-le}
use Rattle.std.proofs.Math.Seq.{take-add, take-append-add}
use borrow.Rule.Slice.PartMut.{put_mid}
use Rattle.port_trait.specs.World.{Cell, World}
use Rattle.port_trait.specs.Moves.{RoseOnce, took, gave, counted, Touches, Came, Hands, Fails}
use Rattle.port_trait.specs.Whole.{Ends, FailsShort, IsPrefix, Reads, FailsWithin}

-- two calls on one port touch that port alone
pub touches_more : (p : ℕ) (w v u : World) → Touches p w v → Touches p v u → Touches p w u
touches_more p w v u a b = record {
  others = λ q l ne. b.others q l ne ∙ a.others q l ne;
  crowd = b.crowd ∙ a.crowd;
  started = b.started ∙ a.started;
}

-- m bytes are handed out and then n: m + n in all
pub took-took : (n m : ℕ) (c : Cell) → took n (took m c) ≡ took (m + n) c
took-took n m c = ap (λ (o : Option (List ℕ)). record c { holds = o }) (drops c.holds)
  where
    drops : (o : Option (List ℕ))
        → option_map (drop n) (option_map (drop m) o) ≡ option_map (drop (m + n)) o
    drops None = refl
    drops (Some h) = ap (λ (l : List ℕ). Some l) (drop-drop n m h)

-- no byte is handed out: nothing changes
pub took_none : (c : Cell) → took 0 c ≡ c
took_none c = ap (λ (o : Option (List ℕ)). record c { holds = o }) (same c.holds)
  where
    same : (o : Option (List ℕ)) → option_map (drop 0) o ≡ o
    same None = refl
    same (Some h) = refl

-- two pieces are taken: both in one
pub gave-gave : (a b : List ℕ) (c : Cell) → gave b (gave a c) ≡ gave (a ++ b) c
gave-gave a b c = ap (λ (o : Option (List ℕ)). record c { accepted = o }) (joins c.accepted)
  where
    joins : (o : Option (List ℕ))
        → option_map (λ x. x ++ b) (option_map (λ x. x ++ a) o) ≡ option_map (λ x. x ++ (a ++ b)) o
    joins None = refl
    joins (Some h) = ap (λ (l : List ℕ). Some l) (append_assoc h a b)

-- what a write to the end of a slice makes of it
put_end : (m : ℕ) (xs ys : List ℕ) → m ≤ length xs → put_mid m (length xs - m) xs ys ≡ take m xs ++ ys
put_end m xs ys le = ap (λ (l : List ℕ). take m xs ++ (ys ++ l)) (drop_all (length xs - m) (drop m xs) (omega (arith, length-drop m xs))) ∙ ap (λ (l : List ℕ). take m xs ++ l) (append-nil ys)

-- m bytes came into the start of a slice and then n behind them: m + n in all
come_more : (m n : ℕ) (before xs sub ys : List ℕ) (o o1 : Option (List ℕ)) → m ≤ length xs
    → sub ≡ drop m xs → o1 ≡ option_map (drop m) o → IfSome o (Came m before xs)
    → IfSome o1 (Came n sub ys)
    → IfSome o (Came (m + n) before (take m xs ++ ys))
come_more m n before xs sub ys None o1 le is left a b = tt
come_more m n before xs sub ys (Some h) o1 le is left a b =
    let b' : Came n sub ys (drop m h) = subst (λ (x : Option (List ℕ)). IfSome x (Came n sub ys)) left b in
    let size : length (take m xs) ≡ m = length-take-le m xs le in
    record {
      there = omega (arith, length-drop m h, a.there, b'.there);
      bytes = subst (λ (k : ℕ). take (k + n) (take m xs ++ ys) ≡ take m xs ++ take n ys) size (take-append-add (take m xs) ys n)
          ∙ ap (λ (l : List ℕ). l ++ take n ys) a.bytes
          ∙ ap (λ (l : List ℕ). take m h ++ l) b'.bytes
          ∙ sym (take-add m n h);
      rest = sym (drop-drop n m (take m xs ++ ys))
          ∙ ap (λ (l : List ℕ). drop n l) (drop_at (take m xs) ys m size)
          ∙ b'.rest ∙ ap (λ (l : List ℕ). drop n l) (is ∙ a.rest) ∙ drop-drop n m before;
    }

-- m bytes are handed out into the start of a slice and then n behind them: m + n in all
pub hands_more : (p m n : ℕ) (before xs sub ys : List ℕ) (w v u : World) → length xs ≡ length before
    → sub ≡ drop m xs → Hands p m before xs w v → Hands p n sub ys v u
    → Hands p (m + n) before (put_mid m (length xs - m) xs ys) w u
hands_more p m n before xs sub ys w v u same is a b =
    let le : m ≤ length xs = omega (arith, a.fits) in
    let holds : (v.at p).holds ≡ option_map (drop m) (w.at p).holds = ap (λ (c : Cell). c.holds) a.cell in
    subst (λ (l : List ℕ). Hands p (m + n) before l w u) (sym (put_end m xs ys le)) record {
      fits = omega (arith, b.fits, ap length is, length-drop m xs);
      cell = b.cell ∙ ap (took n) a.cell ∙ took-took n m (w.at p);
      told = come_more m n before xs sub ys (w.at p).holds (v.at p).holds le is holds a.told b.told;
    }

-- the first m bytes of a piece are taken and then n more: the first m + n
pub gave_more : (m n : ℕ) (piece sub : List ℕ) (c d e : Cell) → m ≤ length piece → sub ≡ drop m piece
    → d ≡ gave (take m piece) c → e ≡ gave (take n sub) d → e ≡ gave (take (m + n) piece) c
gave_more m n piece sub c d e le is a b =
    b ∙ ap (λ (l : List ℕ). gave (take n l) d) is ∙ ap (gave (take n (drop m piece))) a ∙ gave-gave (take m piece) (take n (drop m piece)) c
    ∙ ap (λ (l : List ℕ). gave l c) (sym (take-add m n piece))

-- a port that holds nothing after m bytes held just those
length_at_end : (m : ℕ) (before xs : List ℕ) (o o1 : Option (List ℕ)) → o1 ≡ option_map (drop m) o
    → IfSome o (Came m before xs) → IfSome o1 (λ h. h ≡ []) → IfSome o (λ h. length h ≡ m)
length_at_end m before xs None o1 is came none = tt
length_at_end m before xs (Some h) o1 is came none =
    let none' : drop m h ≡ [] = subst (λ (x : Option (List ℕ)). IfSome x (λ h. h ≡ [])) is none in
    omega (arith, length-drop m h, ap length none', came.there)

-- a take of no bytes after m: the port ended after m
pub ends : (p m n : ℕ) (before xs sub ys : List ℕ) (w v u : World) → length xs ≡ length before
    → sub ≡ drop m xs → Hands p m before xs w v → Hands p n sub ys v u → m < length before → n ≡ 0
    → IfSome (v.at p).holds (λ h. h ≡ []) → Ends p m before (put_mid m (length xs - m) xs ys) w u
ends p m n before xs sub ys w v u same is a b fewer none last = record {
  fewer = fewer;
  hands = subst (λ (k : ℕ). Hands p k before (put_mid m (length xs - m) xs ys) w u) (let e : m + n ≡ m = omega arith in e) (hands_more p m n before xs sub ys w v u same is a b);
  all = length_at_end m before xs (w.at p).holds (v.at p).holds (ap (λ (c : Cell). c.holds) a.cell) a.told last;
}

-- what was read, and what came next, is the prefix of what was held
read_next : (n : ℕ) (read sub ys : List ℕ) (o o1 : Option (List ℕ)) → n ≤ length ys
    → o1 ≡ option_map (drop (length read)) o → IfSome o (IsPrefix read) → IfSome o1 (Came n sub ys)
    → IfSome o (IsPrefix (read ++ take n ys))
read_next n read sub ys None o1 le is a b = tt
read_next n read sub ys (Some h) o1 le is a b =
    let b' : Came n sub ys (drop (length read) h) = subst (λ (x : Option (List ℕ)). IfSome x (Came n sub ys)) is b in
    let size : length (read ++ take n ys) ≡ length read + n = omega (arith, length-append read (take n ys), length-take-le n ys le) in
    record {
      there = omega (arith, size, b'.there, a.there, length-drop (length read) h);
      bytes = ap (λ (l : List ℕ). l ++ take n ys) a.bytes ∙ ap (λ (l : List ℕ). take (length read) h ++ l) b'.bytes ∙ sym (take-add (length read) n h) ∙ ap (λ (k : ℕ). take k h) (sym size);
    }

-- a stream's reader has read more
pub reads_more : (p n : ℕ) (read sub ys : List ℕ) (w v u : World) → length ys ≡ length sub
    → Reads p read w v → Hands p n sub ys v u → Reads p (read ++ take n ys) w u
reads_more p n read sub ys w v u same a b =
    let le : n ≤ length ys = omega (arith, b.fits) in
    let size : length (read ++ take n ys) ≡ length read + n = omega (arith, length-append read (take n ys), length-take-le n ys le) in
    record {
      cell = b.cell ∙ ap (took n) a.cell ∙ took-took n (length read) (w.at p) ∙ ap (λ (k : ℕ). took k (w.at p)) (sym size);
      told = read_next n read sub ys (w.at p).holds (v.at p).holds le (ap (λ (c : Cell). c.holds) a.cell) a.told b.told;
    }

-- a port that holds nothing after what was read held just that
read_all : (read : List ℕ) (o o1 : Option (List ℕ)) → o1 ≡ option_map (drop (length read)) o
    → IfSome o (IsPrefix read) → IfSome o1 (λ h. h ≡ []) → IfSome o (λ h. read ≡ h)
read_all read None o1 is a none = tt
read_all read (Some h) o1 is a none =
    let none' : drop (length read) h ≡ [] = subst (λ (x : Option (List ℕ)). IfSome x (λ h. h ≡ [])) is none in
    a.bytes ∙ take_all (length read) h (omega (arith, length-drop (length read) h, ap length none'))

-- at the end it has read all
pub reads_end : (p n : ℕ) (read sub ys : List ℕ) (w v u : World) → Reads p read w v
    → Hands p n sub ys v u → n ≡ 0 → IfSome (v.at p).holds (λ h. h ≡ [])
    → (u.at p ≡ took (length read) (w.at p)) × IfSome (w.at p).holds (λ h. read ≡ h)
reads_end p n read sub ys w v u a b none last = (
  b.cell ∙ ap (λ (k : ℕ). took k (v.at p)) none ∙ took_none (v.at p) ∙ a.cell,
  read_all read (w.at p).holds (v.at p).holds (ap (λ (c : Cell). c.holds) a.cell) a.told last,
)

-- a first piece of a text was cut short
pub fails_first : (p : ℕ) (a b : List ℕ) (w v : World) → FailsWithin p a w v
    → FailsWithin p (a ++ b) w v
fails_first p a b w v f = record {
  n = f.n;
  proper = omega (arith, f.proper, length-append a b);
  cell = f.cell ∙ ap (λ (l : List ℕ). counted (v.at p).faults (gave l (w.at p))) (sym (take-append-le f.n a b (omega (arith, f.proper))));
  rose = f.rose;
}

-- a first piece was taken whole, and the next was cut short
pub fails_next : (p : ℕ) (a b : List ℕ) (w v u : World) → v.at p ≡ gave a (w.at p) → FailsWithin p b v u
    → FailsWithin p (a ++ b) w u
fails_next p a b w v u is f = record {
  n = length a + f.n;
  proper = omega (arith, f.proper, length-append a b);
  cell = f.cell ∙ ap (λ (c : Cell). counted (u.at p).faults (gave (take f.n b) c)) is ∙ ap (counted (u.at p).faults) (gave-gave a (take f.n b) (w.at p))
      ∙ ap (λ (l : List ℕ). counted (u.at p).faults (gave l (w.at p))) (sym (take-append-add a b f.n));
  rose = subst (λ (k : ℕ). RoseOnce k (u.at p).faults) (ap (λ (c : Cell). c.faults) is) f.rose;
}

-- what holds in any case holds at an `Err`
pub at_err : {T E P : Type 0} (r : Result T E) → P → OnErr r P
at_err (Ok x) p = tt
at_err (Err e) p = p

-- a call failed after n bytes were handed out, fewer than this
pub fails_short : (p n most : ℕ) (before after : List ℕ) (w v u : World) → Hands p n before after w v → Fails p v u → n < most → FailsShort p most w u
fails_short p n most before after w v u a f fewer = record {
  after = record {
    n = n;
    cell = f.cell ∙ ap (counted (u.at p).faults) a.cell;
    held = there (w.at p).holds a.told;
    rose = subst (λ (k : ℕ). RoseOnce k (u.at p).faults) (ap (λ (c : Cell). c.faults) a.cell) f.rose;
  };
  fewer = fewer;
}
  where
    there : (o : Option (List ℕ)) → IfSome o (Came n before after) → IfSome o (λ h. n ≤ length h)
    there None came = tt
    there (Some h) came = came.there

-- what is said where bytes are told holds of these bytes
pub at_told : (P : List ℕ → Type 0) (o : Option (List ℕ)) (bytes : List ℕ) → o ≡ Some bytes → IfSome o P → P bytes
at_told P o bytes is p = subst (λ (x : Option (List ℕ)). IfSome x P) is p
