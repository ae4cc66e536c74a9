use Rattle.std.proofs.Common.{◌+◌, ◌∷◌, drop, sym, ap, ◌∙◌}
use Rattle.bsp_model.specs.declared.request.Message.{Message}
use Rattle.bsp_step.specs.ViewParts.{ViewParts}
use Rattle.bsp_step.proofs.MessagesLeft.{IsQueue-rest}
use Rattle.bsp_step.proofs.ctx.Ctx.move_into.Goals as goal

pub invariant_of-self : goal.invariant_of-self
invariant_of-self c =
    let old = c.self.invariant in
    let taken = c.self.inside.taken in
    let queue = c.self.inside.view.now.queue in
    let m : Message = record { tag = c.in-Some-first_left.message.tag.now; words = c.in-Some-first_left.message.words.now } in
    let first =
    ap (λ (v : ViewParts). drop taken v.queue) (sym c.view.view_is)
    ∙ c.in-Some-first_left.ensures.first
    ∙ ap (λ (v : ViewParts). m ∷ drop (taken + 1) v.queue) c.view.view_is in
    record {
      view = old.view;
      memory = old.memory;
      left = IsQueue-rest (drop taken queue) m (drop (taken + 1) queue) old.left first;
      few_requests = old.few_requests;
      placed = old.placed;
      asked = old.asked;
      addressed = old.addressed;
      popped = old.popped;
      pushed = old.pushed;
      tag = old.tag;
      lines = old.lines;
      little_work = old.little_work;
    }
