-- A session's file, record by record.
use Rattle.std.proofs.Common.{◌≡◌, ℕ, ◌+◌, ◌<◌, List, [], ◌∷◌, ◌++◌, length, take, drop, get_or, sym, ap, ap₂, ◌∙◌, arith}
use Rattle.std.specs.Prelude.{Option, None}
use Rattle.std.proofs.lemmas.List.{append-nil, length-take-le, take_more, take-append-drop, drop_more}
use Rattle.wire_frames.specs.Session.{record_bytes, records_bytes}
use Rattle.wire_frames.proofs.Parsing.{records_bytes-append}

-- one record more
pub records_more : (xs : List (Option (List ℕ))) (i : ℕ) (x : Option (List ℕ)) → i < length xs → x ≡ get_or xs i None
    → records_bytes 1 (take (i + 1) xs) ≡ records_bytes 1 (take i xs) ++ record_bytes (i + 1) x
records_more xs i x lt is =
    let place : 1 + length (take i xs) ≡ i + 1 = omega (arith, length-take-le i xs (omega arith)) in
    ap (records_bytes 1) (take_more xs i None lt) ∙ records_bytes-append 1 (take i xs) (get_or xs i None ∷ [])
    ∙ ap (λ l. records_bytes 1 (take i xs) ++ l) (append-nil (record_bytes (1 + length (take i xs)) (get_or xs i None)) ∙ ap₂ record_bytes place (sym is))

-- all of them, where one stands between those before it and those behind it
pub records_pieces : (xs : List (Option (List ℕ))) (i : ℕ) (x : Option (List ℕ)) → i < length xs → x ≡ get_or xs i None
    → records_bytes 1 xs ≡ records_bytes 1 (take i xs) ++ (record_bytes (i + 1) x ++ records_bytes (i + 2) (drop (i + 1) xs))
records_pieces xs i x lt is =
    let place : 1 + length (take i xs) ≡ i + 1 = omega (arith, length-take-le i xs (omega arith)) in
    ap (records_bytes 1) (sym (take-append-drop i xs) ∙ ap (λ l. take i xs ++ l) (drop_more xs i None lt))
    ∙ records_bytes-append 1 (take i xs) (get_or xs i None ∷ drop (i + 1) xs)
    ∙ ap (λ n. records_bytes 1 (take i xs) ++ records_bytes n (get_or xs i None ∷ drop (i + 1) xs)) place
    ∙ ap₂ (λ y n. records_bytes 1 (take i xs) ++ (record_bytes (i + 1) y ++ records_bytes n (drop (i + 1) xs))) (sym is) (omega arith)
