-- The views of the next superstep, of its setting, memories and queues.
use Rattle.std.proofs.Common.{◌≡◌, ◌+◌, ◌∙◌, List, ℕ, ap, sym, subst, length}
use Rattle.bsp_model.specs.declared.request.Message.{Message}
use Rattle.bsp_run.specs.declared.setting.Setting.{Setting}
use Rattle.bsp_run.specs.declared.phase.Phase.TheVariants.{Turned}
use Rattle.bsp_run.specs.State.{next_state, views_of}
use Rattle.bsp_run.specs.Setting.{next_setting, next_views}
use Rattle.bsp_run.specs.Inside.Opening.{CanOpen, state_of}
use Rattle.bsp_run.specs.Run.{Run}
use Rattle.bsp_run.specs.Condition.{IsRun, deliveries_of}
use Rattle.bsp_run.proofs.Phases.{cells_are, next_is_run, next_table-is, next_tag-is, can_open_next}

-- what was delivered makes the next state
state_is : (r : Run) (setting : Setting) (cells : List (List ℕ × List Message)) → setting ≡ next_setting r → cells ≡ deliveries_of r.outcomes → state_of cells setting.table setting.tag_size ≡ next_state r.state r.outcomes
state_is r setting cells known made =
    cells_are r cells setting.table setting.tag_size made (next_table-is r setting.table (ap (λ (s : Setting). s.table) known)) (next_tag-is r setting.tag_size (ap (λ (s : Setting). s.tag_size) known))

pub opens_next : (r : Run) (setting : Setting) (cells : List (List ℕ × List Message)) → IsRun r → r.phase ≡ Turned → setting ≡ next_setting r → cells ≡ deliveries_of r.outcomes → CanOpen setting.args setting.step (state_of cells setting.table setting.tag_size)
opens_next r setting cells h phase known made =
    subst (λ (s : Setting). CanOpen s.args s.step (state_of cells setting.table setting.tag_size)) (sym known)
    (subst (CanOpen r.args (length r.past + 1)) (sym (state_is r setting cells known made)) (can_open_next r (next_is_run r h phase)))

pub views_next : (r : Run) (setting : Setting) (cells : List (List ℕ × List Message)) → setting ≡ next_setting r → cells ≡ deliveries_of r.outcomes → views_of setting.args setting.step (state_of cells setting.table setting.tag_size) ≡ next_views r
views_next r setting cells known made =
    ap (λ (s : Setting). views_of s.args s.step (state_of cells setting.table setting.tag_size)) known ∙ ap (views_of r.args (length r.past + 1)) (state_is r setting cells known made)
