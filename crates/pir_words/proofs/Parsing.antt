-- What a parse by `clap` says.
use Rattle.std.proofs.Common.{◌≡◌, ◌∙◌, ◌⊎◌, inl, inr, true, false, [], ◌∷◌, length, refl, sym, ap, arith}
use Rattle.std.specs.Prelude.{◌==◌}
use Rattle.std.proofs.lemmas.Bool.{ne_eqb}
use Rattle.clap.specs.Words.{IsAmong, Kinds, is_simple, is_simple_and_free}
use Rattle.clap.specs.declared.error.kind.ErrorKind.{ErrorKind}
use Rattle.clap.specs.declared.error.kind.ErrorKind.TheVariants.{OutOfMemory}
use Rattle.clap.proofs.OnLiterals.{clap_on_literals}
use Rattle.pir_words.specs.Form.{fault_by, pir}
use Rattle.pir_words.specs.declared.asked.WordsFault.{WordsFault}
use Rattle.pir_words.specs.declared.asked.WordsFault.TheVariants.{Usage, Memory}

-- `clap` defines what words give to such a command
pub pir_is_simple : is_simple pir ≡ true
unfolding clap_on_literals pir
pir_is_simple = refl

-- and which words it takes
pub pir_is_free : is_simple_and_free pir ≡ true
unfolding clap_on_literals pir
pir_is_free = refl

-- an error that is no want of memory has a kind
pub some_kind : (k : ErrorKind) (kinds : Kinds) (f : WordsFault) → f ≡ fault_by k → f ≡ Usage
    → (k ≡ OutOfMemory) ⊎ IsAmong k kinds → (length kinds == 0) ≡ false
some_kind k kinds f is usage (inl e) =
    let bad : Usage ≡ Memory = sym usage ∙ is ∙ ap fault_by e in
    cc
some_kind k [] f is usage (inr h) = absurd h
some_kind k (x ∷ xs) f is usage (inr h) = ne_eqb _ _ (λ e. omega arith)
