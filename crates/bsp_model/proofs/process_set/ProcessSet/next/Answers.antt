use Rattle.std.proofs.Common.{ℕ, Bool, false, List, length, sym, ap, ◌∙◌, arith}
use Rattle.std.specs.Prelude.{slice_get}
use Rattle.std.proofs.lemmas.List.{get_or_past}
use Rattle.bsp_model.specs.ProcessSet.{processes_from}
use Rattle.bsp_model.specs.Inside.WordsOfSets.{length-set_of}
use Rattle.bsp_model.proofs.SetBits.{none_left, first_left, first_within}
use Rattle.bsp_model.proofs.ProcessSets.{processes_from_none}
use Rattle.bsp_model.proofs.process_set.ProcessSet.next.Goals as goal

pub returns-then-from-self-clause-first : goal.returns-then-from-self-clause-first
returns-then-from-self-clause-first c =
    let s = c.args.self.now in
    let long = ap (λ (t : List Bool). length t) (sym c.self.view_is) ∙ length-set_of c.self.inside.count c.self.inside.bits in
    sym (ap (λ (xs : List ℕ). slice_get xs 0) (processes_from_none s c.args.from (λ p above. get_or_past s p false (omega (arith, above, c.if-from-self.true, long)))))

pub returns-then-left-eq0-clause-first : goal.returns-then-left-eq0-clause-first
returns-then-left-eq0-clause-first c =
    let own = c.self.inside in
    sym (ap (λ (xs : List ℕ). slice_get xs 0) (none_left own.count own.bits c.args.from c.self.invariant c.if-left-eq0.true))
    ∙ ap (λ (s : List Bool). slice_get (processes_from s c.args.from) 0) c.self.view_is

pub returns-clause-first : goal.returns-clause-first
returns-clause-first c =
    let own = c.self.inside in
    sym (ap (λ (xs : List ℕ). slice_get xs 0) (first_left own.count own.bits c.args.from c.self.invariant (omega arith) c.if-left-eq0.false))
    ∙ ap (λ (s : List Bool). slice_get (processes_from s c.args.from) 0) c.self.view_is

pub returns-clause-known : goal.returns-clause-known
returns-clause-known c = omega (arith, first_within c.self.inside.count c.self.inside.bits c.args.from c.self.invariant (omega arith) c.if-left-eq0.false, c.self.invariant.few)
