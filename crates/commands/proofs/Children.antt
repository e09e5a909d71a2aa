-- The children of a demonstration: what they are started with, and the starts one after the other.
use Rattle.std.proofs.Common.{◌≡◌, ◌∙◌, ℕ, ◌+◌, ◌<◌, List, [], ◌∷◌, ◌++◌, length, get_or, take, map, refl, sym, ap, subst, append_assoc, arith}
use Rattle.std.specs.Prelude.{Option, None, Some}
use Rattle.std.specs.Option.{option_map}
use Rattle.std.specs.List.{range_with_len, take-map}
use Rattle.std.proofs.lemmas.List.FromFn.{map-range_with_len_more}
use Rattle.std.proofs.lemmas.Simd.{map-map}
use Rattle.std.proofs.lemmas.List.{map-append, take_all, take_more, length-map}
use Rattle.port_trait.specs.World.{World}
use Rattle.port_trait.specs.Number.{child}
use Rattle.port_trait.specs.Children.{Starts}
use Rattle.port_trait.specs.Moves.{Fails, Touches}
use Rattle.commands.specs.DemoOrder.{address_from}
use Rattle.commands.specs.DemoOutcome.{StartsAll, StartsSome}

-- the address of the next child comes behind those before it
pub address_next : {X : Type 0} (f : X → List ℕ) (port i : ℕ) (xs : List X) (x : X)
    → map f xs ≡ map (address_from port) (range_with_len 1 i) → f x ≡ address_from port (i + 1)
    → map f (xs ++ x ∷ []) ≡ map (address_from port) (range_with_len 1 (i + 1))
address_next f port i xs x so_far next =
    map-append f xs (x ∷ []) ∙ ap (λ l. l ++ f x ∷ []) so_far ∙ ap (λ a. map (address_from port) (range_with_len 1 i) ++ a ∷ []) next
    ∙ sym (map-range_with_len_more (address_from port) 1 i (i + 1) (omega arith))

-- a child could not be started after those before it
pub starts_some : {X : Type 0} (f : X → List (List ℕ)) (xs : List X) (i k : ℕ) (w v u : World) → i < length xs
    → k ≡ 512 + (i + 1) → StartsAll (map f (take i xs)) w v → Fails k v u → Touches k v u → StartsSome (map f xs) w u
starts_some f xs i k w v u lt is all fails touch =
    let at : k ≡ (child 1) + i = omega (arith, is) in
    record {
      before = i;
      fewer = omega (arith, lt, length-map xs f);
      between = v;
      starts = subst (λ l. StartsAll l w v) (sym (take-map f i xs)) all;
      fails = subst (λ p. Fails p v u) at fails;
      others = subst (λ p. Touches p v u) at touch;
    }

-- or it was
pub starts_more : {X : Type 0} (f : X → List (List ℕ)) (xs : List X) (i : ℕ) (d : X) (w v u : World) → i < length xs
    → StartsAll (map f (take i xs)) w v → Starts (f (get_or xs i d)) v u → StartsAll (map f (take (i + 1) xs)) w u
starts_more f xs i d w v u lt all one = record {
  started = one.started ∙ ap (option_map (λ starts. starts ++ f (get_or xs i d) ∷ [])) all.started ∙ join w.started;
  ports = λ q l. one.ports q l ∙ all.ports q l;
  crowd = one.crowd ∙ all.crowd;
}
  where
    -- the first i lists and the next one are the first i + 1
    more : map f (take i xs) ++ f (get_or xs i d) ∷ [] ≡ map f (take (i + 1) xs)
    more = sym (ap (map f) (take_more xs i d lt) ∙ map-append f (take i xs) (get_or xs i d ∷ []))

    -- so they are of what is told of the children
    join : (told : Option (List (List (List ℕ)))) → option_map (λ starts. starts ++ f (get_or xs i d) ∷ []) (option_map (λ starts. starts ++ map f (take i xs)) told)
        ≡ option_map (λ starts. starts ++ map f (take (i + 1) xs)) told
    join None = refl
    join (Some told) = ap (λ (starts : List (List (List ℕ))). Some starts) (append_assoc told _ _ ∙ ap (λ lists. told ++ lists) more)

-- one list of words more is made
pub made_more : {X Y : Type 0} (f : Y → List (List ℕ)) (h : X → List (List ℕ)) (made more : List Y) (y : Y) (xs : List X) (i : ℕ) (d : X) → i < length xs → map f made ≡ map h (take i xs)
    → more ≡ made ++ y ∷ [] → f y ≡ h (get_or xs i d) → map f more ≡ map h (take (i + 1) xs)
made_more f h made more y xs i d lt so_far behind next =
    ap (map f) behind ∙ map-append f made (y ∷ []) ∙ ap (λ lists. lists ++ f y ∷ []) so_far ∙ ap (λ words. map h (take i xs) ++ words ∷ []) next
    ∙ sym (ap (map h) (take_more xs i d lt) ∙ map-append h (take i xs) (get_or xs i d ∷ []))

-- what each child is started with, by the addresses of all
pub words_by_address : {X : Type 0} (f : List ℕ → List (List ℕ)) (g : X → List ℕ) (xs : List X) (n : ℕ) → n ≡ length xs → map (λ x. f (g x)) (take n xs) ≡ map f (map g xs)
words_by_address f g xs n is = ap (map (λ x. f (g x))) (take_all n xs (omega (arith, is))) ∙ sym (map-map f g xs)
