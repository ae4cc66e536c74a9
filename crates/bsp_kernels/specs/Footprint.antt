-- The footprint of a kernel.
use Rattle.std.proofs.Common.{◌≡◌, ℕ, Bool, true, List, length, refl, sym, ap, ◌∙◌, inl, inr, arith}
use Rattle.std.specs.Prelude.{replicate}
use Rattle.std.proofs.lemmas.Bool.{cases_lt}
use Rattle.std.proofs.lemmas.Option.{slice_get_past}
use Rattle.bsp_step.specs.ViewParts.{ViewParts}
use Rattle.bsp_step.specs.Footprint.{IsFootprint, AreAlike, AreAlikeButForWords}
use Rattle.bsp_step.specs.Plan.{Plan}
use Rattle.bsp_kernels.specs.declared.kernel.Kernel.{Kernel}
use Rattle.bsp_kernels.specs.Machine.{first_state, setting_of, plan_from}
use Rattle.bsp_kernels.specs.Known.{first_known, looks_from}
use Rattle.bsp_kernels.specs.Kernels.{kernel_plan, kernel_acts, kernel_ending, kernel_looks}
use Rattle.bsp_kernels.specs.Knowing.{AreKnown-same}
use Rattle.bsp_kernels.specs.Over.{IsAlike, plans-same}

setting-alike : (constants : List ℕ) (v w : ViewParts) → AreAlikeButForWords v w → setting_of constants v ≡ setting_of constants w
setting-alike constants v w h =
    λ i. record { constants = constants; nprocs = h.nprocs i; pid = h.pid i; step = h.step i; args = h.args i; memory_len = h.same_length i; tag_size = h.tag_size i }

-- past the end of the memories there are no words, so there they agree
IsAlike-views : (looks : ℕ → Bool) (v w : ViewParts) → AreAlike looks v w → IsAlike looks v.memory w.memory
IsAlike-views looks v w alike =
    record {
      count = alike.parts.same_length;
      words = λ a looked.
          elim (cases_lt a (length v.memory)) [
            | inl within ↦ alike.words a within looked
            | inr past ↦ slice_get_past v.memory a past ∙ sym (slice_get_past w.memory a (omega (arith, alike.parts.same_length)))
          ];
    }

plan-alike : (k : Kernel) (v w : ViewParts) → AreAlike (kernel_looks k v) v w → kernel_plan k v ≡ kernel_plan k w
plan-alike k v w alike =
    plans-same (kernel_looks k v) k.code k.budget k.looking_budget (setting_of k.constants v) (first_known v.queue) (first_state (setting_of k.constants v) v.memory v.queue) w.memory
    (record { setting = refl; left = refl; taken = refl; place = refl; registers = AreKnown-same (replicate 256 true) (replicate 256 0) })
    (IsAlike-views (kernel_looks k v) v w alike)
    (λ a is. is)
    ∙ (λ i. plan_from k.code k.budget (first_state (setting-alike k.constants v w alike.parts i) w.memory (alike.parts.queue i)))

-- A kernel depends on the words at which it looks, and on no others.
pub kernel_footprint : (k : Kernel) → IsFootprint (kernel_acts k) (kernel_ending k) (kernel_looks k)
kernel_footprint k =
    record {
      acts_alike = λ v w _ _ alike. ap (λ (p : Plan). p.acts) (plan-alike k v w alike);
      ending_alike = λ v w _ _ alike. ap (λ (p : Plan). p.ending) (plan-alike k v w alike);
      looks_alike = λ v w _ _ parts a. λ i. looks_from k.code k.looking_budget (setting-alike k.constants v w parts i) (first_known (parts.queue i)) a;
    }
