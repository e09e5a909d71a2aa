use Rattle.std.proofs.Common.{◌≡◌, ◌∙◌, if◌then◌else◌, ℕ, List, rules, subst, sym}
use Rattle.std.specs.Str.{bytes_eq}
use Rattle.std.proofs.lemmas.Bool.{cond-false, false_from_ne_true}
use Rattle.std.proofs.lemmas.Slice.Eq.{bytes_eq-Decides}
use Rattle.pir_words.specs.Numbers.{given}
use Rattle.pir_words.specs.Form.{IsReadAs, asked_by}
use Rattle.pir_words.proofs.InRanges.{demo_range, fetch_range, front_range, in_range, lookup_range, replay_range, selfrun_range, serve_range, split_range}
use Rattle.pir_words.proofs.asked.read_command.Goals as goal

-- a text that isn't the name asks for what the other names do
otherwise : {A : Type 0} (name key : List ℕ) (a b : A) → (name ≡ key → ⊥) → (if bytes_eq name key then a else b) ≡ b
otherwise name key a b ne = cond-false _ a b (false_from_ne_true _ (λ same. ne (search (rules, bytes_eq-Decides, same))))

pub returns-in-replay-clause-form : goal.returns-in-replay-clause-form
unfolding asked_by
returns-in-replay-clause-form c = subst (λ name. IsReadAs (asked_by name (given c.args.matches.now)) c.read_replay.result) (sym c.in-replay.is) c.read_replay.ensures

pub returns-in-replay-clause-ranges : goal.returns-in-replay-clause-ranges
returns-in-replay-clause-ranges c = in_range _ _ (replay_range (given c.args.matches.now)) c.read_replay.ensures

pub returns-in-fetch-clause-form : goal.returns-in-fetch-clause-form
unfolding asked_by
returns-in-fetch-clause-form c = subst (λ name. IsReadAs (asked_by name (given c.args.matches.now)) c.read_fetch.result) (sym c.in-fetch.is) c.read_fetch.ensures

pub returns-in-fetch-clause-ranges : goal.returns-in-fetch-clause-ranges
returns-in-fetch-clause-ranges c = in_range _ _ (fetch_range (given c.args.matches.now)) c.read_fetch.ensures

pub returns-in-serve-clause-form : goal.returns-in-serve-clause-form
unfolding asked_by
returns-in-serve-clause-form c = subst (λ name. IsReadAs (asked_by name (given c.args.matches.now)) c.read_serve.result) (sym c.in-serve.is) c.read_serve.ensures

pub returns-in-serve-clause-ranges : goal.returns-in-serve-clause-ranges
returns-in-serve-clause-ranges c = in_range _ _ (serve_range (given c.args.matches.now)) c.read_serve.ensures

pub returns-in-selfrun-clause-form : goal.returns-in-selfrun-clause-form
unfolding asked_by
returns-in-selfrun-clause-form c = subst (λ name. IsReadAs (asked_by name (given c.args.matches.now)) c.read_selfrun.result) (sym c.in-selfrun.is) c.read_selfrun.ensures

pub returns-in-selfrun-clause-ranges : goal.returns-in-selfrun-clause-ranges
returns-in-selfrun-clause-ranges c = in_range _ _ (selfrun_range (given c.args.matches.now)) c.read_selfrun.ensures

pub returns-in-demo-clause-form : goal.returns-in-demo-clause-form
unfolding asked_by
returns-in-demo-clause-form c = subst (λ name. IsReadAs (asked_by name (given c.args.matches.now)) c.read_demo.result) (sym c.in-demo.is) c.read_demo.ensures

pub returns-in-demo-clause-ranges : goal.returns-in-demo-clause-ranges
returns-in-demo-clause-ranges c = in_range _ _ (demo_range (given c.args.matches.now)) c.read_demo.ensures

pub returns-in-lookup-clause-form : goal.returns-in-lookup-clause-form
unfolding asked_by
returns-in-lookup-clause-form c = subst (λ name. IsReadAs (asked_by name (given c.args.matches.now)) c.read_lookup.result) (sym c.in-lookup.is) c.read_lookup.ensures

pub returns-in-lookup-clause-ranges : goal.returns-in-lookup-clause-ranges
returns-in-lookup-clause-ranges c = in_range _ _ (lookup_range (given c.args.matches.now)) c.read_lookup.ensures

pub returns-in-split-clause-form : goal.returns-in-split-clause-form
unfolding asked_by
returns-in-split-clause-form c = subst (λ name. IsReadAs (asked_by name (given c.args.matches.now)) c.read_split.result) (sym c.in-split.is) c.read_split.ensures

pub returns-in-split-clause-ranges : goal.returns-in-split-clause-ranges
returns-in-split-clause-ranges c = in_range _ _ (split_range (given c.args.matches.now)) c.read_split.ensures

pub returns-in-front-clause-form : goal.returns-in-front-clause-form
unfolding asked_by
returns-in-front-clause-form c = subst (λ name. IsReadAs (asked_by name (given c.args.matches.now)) c.read_front.result) (sym c.in-front.is) c.read_front.ensures

pub returns-in-front-clause-ranges : goal.returns-in-front-clause-ranges
returns-in-front-clause-ranges c = in_range _ _ (front_range (given c.args.matches.now)) c.read_front.ensures

pub returns-in_default-clause-form : goal.returns-in_default-clause-form
unfolding asked_by
returns-in_default-clause-form c = otherwise _ _ _ _ c.in_default.not-replay ∙ otherwise _ _ _ _ c.in_default.not-fetch ∙ otherwise _ _ _ _ c.in_default.not-serve ∙ otherwise _ _ _ _ c.in_default.not-selfrun ∙ otherwise _ _ _ _ c.in_default.not-demo ∙ otherwise _ _ _ _ c.in_default.not-lookup ∙ otherwise _ _ _ _ c.in_default.not-split ∙ otherwise _ _ _ _ c.in_default.not-front
