use Rattle.std.proofs.Common.{length-drop, ◌≡◌, ◌∙◌, ◌+◌, ◌≤◌, ℕ, List, length, take, drop, refl, sym, ap, subst, arith}
use Rattle.std.specs.Prelude.{Vec, Result, Ok, Err}
use Rattle.std.specs.Result.{IsErrAnd}
use Rattle.std.specs.declared.alloc.Global.{Global}
use Rattle.port_trait.specs.World.{World}
use Rattle.port_trait.specs.Number.{DATABASE}
use Rattle.port_trait.specs.Moves.{Hands}
use Rattle.port_trait.specs.Whole.{Reads, Ends}
use Rattle.port_trait.proofs.Cells.{touches_more}
use Rattle.block_matrix.specs.Loading.{Lengthens, ReadsOr, ReadsUpTo}
use Rattle.block_matrix.specs.declared.matrix.LoadFault.{LoadFault}
use Rattle.block_matrix.specs.declared.matrix.LoadFault.TheVariants.{EmptyFile, TooBig, ReadFault, Memory}
use Rattle.block_matrix.proofs.Pieces.{whole_again, reads_full, reads_ended, reads_failed}
use Rattle.block_matrix.proofs.file.read_up_to.Goals as goal

-- memory ran out behind the bytes that were read
stopped : (most : ℕ) (read bytes : List ℕ) (fault : LoadFault) (result : Result (Vec ℕ Global) LoadFault) (w v : World)
    → IsErrAnd result (λ told. told ≡ fault) → Lengthens most read bytes (Err fault) → length read ≤ most → Reads DATABASE read w v
    → ReadsOr most result w v
stopped most read bytes fault (Ok found) w v h lengthens few so_far = absurd h
stopped most read bytes EmptyFile (Err told) w v h lengthens few so_far = absurd lengthens
stopped most read bytes (TooBig n) (Err told) w v h lengthens few so_far = absurd lengthens
stopped most read bytes ReadFault (Err told) w v h lengthens few so_far = absurd lengthens
stopped most read bytes Memory (Err told) w v h lengthens few so_far =
    subst (λ (f : LoadFault). ReadsOr most (Err f) w v) (sym h) record { n = length read; few = few; cell = so_far.cell }

pub lengthen-requires : goal.lengthen-requires
lengthen-requires g c = omega (arith, c.pieces-test.true, c.len.ensures)

pub returns-in_err-lengthen-clause-read : goal.returns-in_err-lengthen-clause-read
returns-in_err-lengthen-clause-read g c =
    stopped c.args.most c.pieces.bytes.items c.lengthen.new.bytes.items c.in_err-lengthen.field-0.0 c.from_residual.result _ _ c.from_residual.ensures.1
    c.in_err-lengthen.ensures (omega (arith, c.pieces.invariant.few, c.pieces.bytes.ok.0)) c.pieces.invariant.so_far

pub returns-in_err-lengthen-clause-others : goal.returns-in_err-lengthen-clause-others
returns-in_err-lengthen-clause-others g c = c.pieces.invariant.others

pub fill_rest-requires : goal.fill_rest-requires
fill_rest-requires g c =
    omega (arith, c.len-filled.ensures, c.pieces.bytes.ok.0, c.deref_mut.ensures.len, c.lengthen.new.bytes.ok.0, c.in_ok-lengthen.ensures.more)

pub pieces-smaller : goal.pieces-smaller
pieces-smaller g c =
    omega (arith, c.pieces.bytes.ok.0, c.lengthen.new.bytes.ok.0, c.in_ok-lengthen.ensures.more, c.in_ok-lengthen.ensures.within)

pub returns-in-Ended-clause-others : goal.returns-in-Ended-clause-others
returns-in-Ended-clause-others g c = touches_more _ _ _ _ c.pieces.invariant.others c.fill_rest.ensures.others

pub returns-in-Failed-clause-others : goal.returns-in-Failed-clause-others
returns-in-Failed-clause-others g c = touches_more _ _ _ _ c.pieces.invariant.others c.fill_rest.ensures.others

pub returns-clause-read : goal.returns-clause-read
returns-clause-read g c =
    let whole : length c.pieces.bytes.items ≡ c.args.most = omega (arith, c.pieces-test.false, c.len.ensures, c.pieces.invariant.few, c.pieces.bytes.ok.0) in
    record {
      reads = c.pieces.invariant.so_far;
      within = omega (arith, whole);
      ended = λ less. absurd (omega (arith, whole, less));
    }

pub returns-clause-others : goal.returns-clause-others
returns-clause-others g c = c.pieces.invariant.others

pub pieces-preserved : goal.pieces-preserved
pieces-preserved g c =
    let read = c.pieces.bytes.items in
    let before = c.deref_mut.result.now in
    let after = c.fill_rest.new.bytes in
    let v = g.P.Ports.world c.pieces.ports in
    let u = g.P.Ports.world c.fill_rest.new.ports in
    let filled : c.len-filled.result ≡ length read = c.len-filled.ensures ∙ c.pieces.bytes.ok.0 in
    let kept : take (length read) before ≡ read = ap (take (length read)) c.deref_mut.ensures.value ∙ c.in_ok-lengthen.ensures.kept in
    let still : take (length read) after ≡ take (length read) before = subst (λ (k : ℕ). take k after ≡ take k before) filled c.in-Full.ensures.kept in
    let hands = subst (λ (k : ℕ). Hands DATABASE (length (drop k before)) (drop k before) (drop k after) v u) filled c.in-Full.ensures.rest in
    let all = whole_again c.lengthen.new.bytes.len after c.lengthen.new.bytes.items (c.fill_rest.auto.bytes ∙ c.deref_mut.ensures.len) (sym c.lengthen.new.bytes.ok.0) in
    record {
      few = omega (arith, c.in_ok-lengthen.ensures.within, c.lengthen.new.bytes.ok.0);
      so_far =
          subst (λ (l : List ℕ). Reads DATABASE l (g.P.Ports.world c.args.ports.now) u) (sym all)
          (reads_full _ read before after _ v u kept still c.fill_rest.auto.bytes c.pieces.invariant.so_far hands refl);
      others = touches_more _ _ _ _ c.pieces.invariant.others c.fill_rest.ensures.others;
    }

pub returns-in-Ended-clause-read : goal.returns-in-Ended-clause-read
returns-in-Ended-clause-read g c =
    let read = c.pieces.bytes.items in
    let before = c.deref_mut.result.now in
    let after = c.fill_rest.new.bytes in
    let v = g.P.Ports.world c.pieces.ports in
    let u = g.P.Ports.world c.fill_rest.new.ports in
    let filled : c.len-filled.result ≡ length read = c.len-filled.ensures ∙ c.pieces.bytes.ok.0 in
    let kept : take (length read) before ≡ read = ap (take (length read)) c.deref_mut.ensures.value ∙ c.in_ok-lengthen.ensures.kept in
    let still : take (length read) after ≡ take (length read) before = subst (λ (k : ℕ). take k after ≡ take k before) filled c.in-Ended.ensures.kept in
    let ends = subst (λ (k : ℕ). Ends DATABASE c.in-Ended.n (drop k before) (drop k after) v u) filled c.in-Ended.ensures.rest in
    let all = whole_again c.lengthen.new.bytes.len after c.lengthen.new.bytes.items (c.fill_rest.auto.bytes ∙ c.deref_mut.ensures.len) (sym c.lengthen.new.bytes.ok.0) in
    let first : take (length read + c.in-Ended.n) after ≡ c.prefix.result.items =
    sym (c.prefix.ensures ∙ ap (take (c.len-filled.result + c.in-Ended.n)) all ∙ ap (λ (k : ℕ). take (k + c.in-Ended.n) after) filled) in
    subst (λ (l : List ℕ). ReadsUpTo c.args.most l (g.P.Ports.world c.args.ports.now) u) first
    (reads_ended c.args.most c.in-Ended.n read before after _ v u kept still c.fill_rest.auto.bytes
    (omega (arith, c.deref_mut.ensures.len, c.lengthen.new.bytes.ok.0, c.in_ok-lengthen.ensures.within)) c.pieces.invariant.so_far ends)

pub returns-in-Failed-clause-read : goal.returns-in-Failed-clause-read
returns-in-Failed-clause-read g c =
    let before = c.deref_mut.result.now in
    let rest = length-drop c.len-filled.result before in
    let filled : c.len-filled.result ≡ length c.pieces.bytes.items = c.len-filled.ensures ∙ c.pieces.bytes.ok.0 in
    let size = c.deref_mut.ensures.len in
    let long = c.lengthen.new.bytes.ok.0 in
    let more = c.in_ok-lengthen.ensures.more in
    let within = c.in_ok-lengthen.ensures.within in
    reads_failed c.args.most (length (drop c.len-filled.result before)) _ _ _ _
    (omega (arith, rest, filled, size, long, more, within)) c.pieces.invariant.so_far c.in-Failed.ensures.rest
