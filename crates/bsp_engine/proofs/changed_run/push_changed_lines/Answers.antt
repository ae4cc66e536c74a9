use Rattle.std.proofs.Common.{◌<◌, ◌∙◌, length, sym, arith}
use Rattle.bsp_run.specs.Result.{lines_of}
use Rattle.bsp_engine.specs.Changes.{other_lines, same_lines}
use Rattle.bsp_engine.proofs.Changed.{tell_more}
use Rattle.bsp_engine.proofs.changed_run.push_changed_lines.Goals as goal

pub loop-pid-preserved : goal.loop-pid-preserved
loop-pid-preserved c =
    let news = lines_of c.args.new.now in
    let within : c.loop-pid.pid < length news = omega arith in
    tell_more other_lines same_lines (lines_of c.args.old.now) news c.loop-pid.pid c.args.text.now.items c.loop-pid.text.items c.push_lines_if.new.text.items within
    c.loop-pid.invariant c.in_ok-push_lines_if.ensures

pub push_lines_if-requires : goal.push_lines_if-requires
push_lines_if-requires c = λ out. c.requires.same c.loop-pid.pid (omega arith) (sym c.contains.ensures ∙ out)
