use Rattle.std.proofs.Common.{arith, inl, length}
use Rattle.std.proofs.lemmas.List.{get_or-replicate, length-replicate}
use Rattle.bsp_model.specs.Limits.{most_processes}
use Rattle.bsp_deliver.proofs.Gathered.{placed_more, placed_all}
use Rattle.bsp_deliver.proofs.next_memories.places_of.Goals as goal

pub returns : goal.returns
returns c = placed_all most_processes c.loop-place.place c.args.processes.now _ (omega (arith, c.loop-place-test.false)) c.loop-place.invariant

pub loop-place-preserved : goal.loop-place-preserved
loop-place-preserved c = placed_more most_processes c.loop-place.place c.args.processes.now _ c.loop-place-test.true c.requires.known c.requires.ascending c.loop-place.invariant

pub loop-place-init : goal.loop-place-init
loop-place-init c = record {
  count = length-replicate most_processes (length c.args.processes.now);
  here = λ j l. absurd (omega (arith, l));
  other = λ d l. inl (get_or-replicate most_processes d (length c.args.processes.now) 0 l);
}
