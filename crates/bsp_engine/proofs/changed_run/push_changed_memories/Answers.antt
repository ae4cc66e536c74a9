use Rattle.std.proofs.Common.{◌<◌, ◌∙◌, length, sym, arith}
use Rattle.bsp_run.specs.Result.{memories_of}
use Rattle.bsp_model.specs.Same.{same_words}
use Rattle.bsp_engine.specs.Text.{memory_line}
use Rattle.bsp_engine.proofs.Changed.{tell_more}
use Rattle.bsp_engine.proofs.changed_run.push_changed_memories.Goals as goal

pub loop-pid-preserved : goal.loop-pid-preserved
loop-pid-preserved c =
    let news = memories_of c.args.new.now in
    let within : c.loop-pid.pid < length news = omega arith in
    tell_more memory_line same_words (memories_of c.args.old.now) news c.loop-pid.pid c.args.text.now.items c.loop-pid.text.items c.push_memory_if.new.text.items within
    c.loop-pid.invariant c.in_ok-push_memory_if.ensures

pub push_memory_if-requires : goal.push_memory_if-requires
push_memory_if-requires c = λ out. c.requires.same c.loop-pid.pid (omega arith) (sym c.contains.ensures ∙ out)
