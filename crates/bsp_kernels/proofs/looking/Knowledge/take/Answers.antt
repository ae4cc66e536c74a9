use Rattle.std.proofs.Common.{◌≡◌, ◌<◌, length, drop, ap, sym, ◌∙◌, arith}
use Rattle.bsp_step.specs.ViewParts.{ViewParts}
use Rattle.bsp_kernels.specs.declared.looking.Knowledge.{Knowledge}
use Rattle.bsp_kernels.specs.Inside.Showing.{taken_words}
use Rattle.bsp_kernels.proofs.LooksFrom.{drop-more, drop-past, takes-shown, taken-more, taken-past}
use Rattle.bsp_kernels.proofs.looking.Knowledge.take.Goals as goal
use Rattle.bsp_kernels.proofs.looking.Knowledge.take.Goals.{then-self-messages, else-self-messages}

pub returns-clause-taken : goal.returns-clause-taken
returns-clause-taken c =
    let queue = c.args.view.now.queue in
    let old = c.args.self.now in
    let mid = c.if-self-messages.self in
    let count : c.len-messages.result ≡ length queue = c.len-messages.ensures ∙ ap (λ (v : ViewParts). length v.queue) c.view.view_is in
    let count_of_words = length c.first_words.result.now in
    let len = ap length c.first_words.ensures in
    elim c.if-self-messages.branch [
      | then-self-messages w ↦ takes-shown queue old mid c.learn.new.self count_of_words c.args.r c.args.next c.learn.ensures.learnt (ap (λ (k : Knowledge). k.registers) w.self-is) (ap (λ (k : Knowledge). k.known) w.self-is) (ap (λ (k : Knowledge). drop k.taken queue) w.self-is ∙ sym (drop-more old.taken queue)) (ap (λ (k : Knowledge). taken_words queue k.taken) w.self-is ∙ taken-more old.taken queue) len
      | else-self-messages w ↦
          let past : length queue < old.taken = omega (arith, count) in
          takes-shown queue old mid c.learn.new.self count_of_words c.args.r c.args.next c.learn.ensures.learnt (ap (λ (k : Knowledge). k.registers) w.self-is) (ap (λ (k : Knowledge). k.known) w.self-is) (ap (λ (k : Knowledge). drop k.taken queue) w.self-is ∙ sym (drop-past old.taken queue past)) (ap (λ (k : Knowledge). taken_words queue k.taken) w.self-is ∙ taken-past old.taken queue past) len
    ]
