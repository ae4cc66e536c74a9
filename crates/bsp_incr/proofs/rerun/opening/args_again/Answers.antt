use Rattle.std.proofs.Common.{◌≡◌, ◌<◌, ◌∙◌, ℕ, List, [], length, map, get_or, ap, sym, arith, rules}
use Rattle.std.specs.Prelude.{slice_set}
use Rattle.std.proofs.Math.ListN.{length-set}
use Rattle.std.proofs.lemmas.List.{get_or_default}
use Rattle.bsp_model.specs.Replaced.{replaced}
use Rattle.bsp_incr.proofs.Members.{first_known, later_known, members_known}
use Rattle.bsp_incr.proofs.rerun.opening.args_again.Goals as goal

pub loop-process-init : goal.loop-process-init
loop-process-init c =
    let f : ℕ → List ℕ = λ p. get_or c.args.input.now p [] in
    let all : List (List ℕ) = c.in_ok-all.all.items in
    let whole = c.into_iter-process-iterator.ensures.into_iter_gives ∙ c.iter-process-items.ensures in
    record {
      rest = ap (λ (ps : List ℕ). replaced all ps (map f ps)) whole;
      count = search rules;
      known = members_known c.args.others.now (length c.args.input.now) c.into_iter-process-iterator.result c.requires.known whole;
    }

pub loop-process-preserved : goal.loop-process-preserved
loop-process-preserved c =
    let f : ℕ → List ℕ = λ p. get_or c.args.input.now p [] in
    let p = c.in-Some.process in
    let later : List ℕ = c.next.new.self in
    let left : List ℕ = c.loop-process.process-iterator in
    let kept = c.loop-process.invariant in
    let all : List (List ℕ) = c.loop-process.all.items in
    let rest = c.in-Some.ensures.steps in
    let item : List ℕ = c.in_ok-all-2.field-0 in
    let seen = c.as_slice-in-loop-process in
    let l : p < length seen.result.now = omega (arith, first_known (length c.args.input.now) p later left rest kept.known, ap (λ (xs : List (List ℕ)). length xs) seen.ensures) in
    let is : item ≡ f p =
    c.in_ok-all-2.ensures ∙ c.in_ok-copy.ensures ∙ c.index-as_slice-process.is ∙ get_or_default seen.result.now p c.index-as_slice-process.result [] l ∙ ap (λ (xs : List (List ℕ)). get_or xs p []) seen.ensures in
    record {
      rest = ap (λ (x : List ℕ). replaced (slice_set all p x) later (map f later)) is ∙ ap (λ (ps : List ℕ). replaced all ps (map f ps)) (sym rest) ∙ kept.rest;
      count = length-set all p item ∙ kept.count;
      known = later_known (length c.args.input.now) p later left rest kept.known;
    }
