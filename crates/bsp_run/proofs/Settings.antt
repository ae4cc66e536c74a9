-- What all processes of a superstep see alike.
use Rattle.std.proofs.Common.{◌≡◌, ◌<◌, ◌+◌, ◌∙◌, ℕ, List, [], length, refl, sym, ap, subst, arith, get_or}
use Rattle.bsp_table.specs.NextTable.{next_table}
use Rattle.bsp_step.specs.ViewParts.{ViewParts}
use Rattle.bsp_step.specs.OutcomeParts.{OutcomeParts}
use Rattle.bsp_deliver.specs.SyncFault.{next_tag_size}
use Rattle.bsp_run.specs.declared.setting.Setting.{Setting}
use Rattle.bsp_run.specs.State.{State, view_of, views_of, next_state, pops_of, pushes_of}
use Rattle.bsp_run.specs.Setting.{next_setting}
use Rattle.bsp_run.specs.Run.{Run, open_views}
use Rattle.bsp_run.specs.Condition.{IsRun, no_view}
use Rattle.bsp_run.specs.Inside.Settings.{IsSettingOf, AreTurned}
use Rattle.bsp_run.proofs.Conditions.{length-views_of, view-views_of}
use Rattle.bsp_run.proofs.Opens.{part_of_views}

-- each process sees the setting of which the views are made
pub IsSettingOf-views_of : (setting : Setting) (s : State) → length setting.args ≡ length s.memories → s.table ≡ setting.table → s.tag_size ≡ setting.tag_size → IsSettingOf (views_of setting.args setting.step s) setting
IsSettingOf-views_of setting s long table tag =
    let view : (p : ℕ) → p < length (views_of setting.args setting.step s) → get_or (views_of setting.args setting.step s) p no_view ≡ view_of setting.args setting.step s p =
    λ p l. view-views_of setting.args setting.step s p (omega (arith, l, length-views_of setting.args setting.step s)) in
    record {
      args = part_of_views (λ (v : ViewParts). v.args) setting.args setting.step s setting.args [] long (λ p. refl);
      step = λ p l. ap (λ (v : ViewParts). v.step) (view p l);
      table = λ p l. ap (λ (v : ViewParts). v.table) (view p l) ∙ table;
      tag_size = λ p l. ap (λ (v : ViewParts). v.tag_size) (view p l) ∙ tag;
    }

-- The setting of the open superstep is the run's.
pub record IsOpenSetting (r : Run) (setting : Setting) : Type 0 where
  pub args : setting.args ≡ r.args
  pub step : setting.step ≡ length r.past
  pub table : setting.table ≡ r.state.table
  pub tag_size : setting.tag_size ≡ r.state.tag_size

pub open_setting : (r : Run) (views : List ViewParts) (setting : Setting) → IsRun r → views ≡ open_views r → IsSettingOf views setting → IsOpenSetting r setting
open_setting r views setting h e is =
    let seen : IsSettingOf (open_views r) setting = subst (λ vs. IsSettingOf vs setting) e is in
    let some : 0 < length (open_views r) = omega (arith, h.state.some, length-views_of r.args (length r.past) r.state) in
    let first = view-views_of r.args (length r.past) r.state 0 (omega (arith, h.state.some)) in
    record {
      args = sym seen.args ∙ part_of_views (λ (v : ViewParts). v.args) r.args (length r.past) r.state r.args [] h.same_args (λ p. refl);
      step = sym (seen.step 0 some) ∙ ap (λ (v : ViewParts). v.step) first;
      table = sym (seen.table 0 some) ∙ ap (λ (v : ViewParts). v.table) first;
      tag_size = sym (seen.tag_size 0 some) ∙ ap (λ (v : ViewParts). v.tag_size) first;
    }

-- after a delivery it is that of the next superstep
pub setting_next : (r : Run) (views : List ViewParts) (os : List OutcomeParts) (setting : Setting) → AreTurned r views os → IsSettingOf views setting
    → record { step = setting.step + 1; args = setting.args; table = next_table setting.table (pops_of os) (pushes_of os); tag_size = next_tag_size setting.tag_size os } ≡ next_setting r
unfolding next_state
setting_next r views os setting t is =
    let s = open_setting r views setting t.run t.views is in
    let left : os ≡ r.outcomes = sym t.outcomes in
    λ i. record { step = s.step i + 1; args = s.args i; table = next_table (s.table i) (pops_of (left i)) (pushes_of (left i)); tag_size = next_tag_size (s.tag_size i) (left i) }
