-- What a replay does and counts where it fails, or has read a session.
use Rattle.std.proofs.Common.{◌≡◌, ◌∙◌, inl, inr, ℕ, List, [], refl, sym, ap, subst, arith}
use Rattle.std.specs.Prelude.{Result, Err}
use Rattle.port_trait.specs.World.{World}
use Rattle.port_trait.specs.Number.{INPUT}
use Rattle.wire_frames.specs.Session.{Transcript}
use Rattle.replay.specs.declared.ReplayFault.{ReplayFault}
use Rattle.replay.specs.declared.ReplayFault.TheVariants.{ReadFault, BadSession, Memory}
use Rattle.replay.specs.Replayed.{CountsNone, ReadTo, ReadsWhole, Spells}
use Rattle.replay.proofs.Readings.{seen_nothing}

-- where a replay fails, what was read doesn't depend on what would have been answered
module _ {T U : Type 0} (P : T → List ℕ → Type 0) (Q : U → List ℕ → Type 0) (old new : World) where
  failed : (fault : ReplayFault) → ReadTo P (Err fault) old new → ReadTo Q (Err fault) old new
  failed ReadFault is = is
  failed (BadSession place) is = is
  failed Memory is = is

  pub failed_alike : (result : Result U ReplayFault) (fault given : ReplayFault) → result ≡ Err fault → fault ≡ given → ReadTo P (Err given) old new → ReadTo Q result old new
  failed_alike result fault given is same done = subst (λ (r : Result U ReplayFault). ReadTo Q r old new) (sym (is ∙ ap Err same)) (failed given done)

-- where no step is counted, none is where nothing is judged
pub no_step : {T : Type 0} (result : Result T ReplayFault) (fault : ReplayFault) (cols nodes : ℕ) → result ≡ Err fault → CountsNone result cols cols × CountsNone result nodes nodes
no_step {T} result fault cols nodes is = subst (λ (r : Result T ReplayFault). CountsNone r cols cols × CountsNone r nodes nodes) (sym is) (none fault cols, none fault nodes)
  where
    none : (fault : ReplayFault) (n : ℕ) → CountsNone {T = T} (Err fault) n n
    none ReadFault n = refl
    none (BadSession place) n = refl
    none Memory n = record {}

-- where memory ran out nothing is said of steps here
pub any_steps : {T : Type 0} (result : Result T ReplayFault) (fault : ReplayFault) (cols cols_now nodes nodes_now : ℕ) → result ≡ Err fault → fault ≡ Memory
    → CountsNone result cols cols_now × CountsNone result nodes nodes_now
any_steps {T} result fault cols cols_now nodes nodes_now is same =
    subst (λ (r : Result T ReplayFault). CountsNone r cols cols_now × CountsNone r nodes nodes_now) (sym (is ∙ ap Err same)) (record {}, record {})

-- there was no memory for a piece: Input is as it was
pub no_room : {T : Type 0} (P : T → List ℕ → Type 0) (w : World) (result : Result T ReplayFault) (fault : ReplayFault) → result ≡ Err fault → fault ≡ Memory → ReadTo P result w w
no_room {T} P w result fault is same =
    let seen = seen_nothing w in
    subst (λ (r : Result T ReplayFault). ReadTo P r w w) (sym (is ∙ ap Err same))
    (inl record { read = []; cell = seen.reads.cell; prefix = seen.reads.told; few = omega arith })

-- there was none for the verdict: the whole session was read
pub no_verdict : {T : Type 0} (P : T → List ℕ → Type 0) (session : Transcript) (old new : World) (result : Result T ReplayFault) (fault : ReplayFault) → result ≡ Err fault → fault ≡ Memory
    → ReadsWhole (Spells session) (old.at INPUT) (new.at INPUT) → ReadTo P result old new
no_verdict {T} P session old new result fault is same reads =
    subst (λ (r : Result T ReplayFault). ReadTo P r old new) (sym (is ∙ ap Err same))
    (inr record { read = reads.read; cell = reads.cell; all = reads.all; is = (session, reads.is) })
