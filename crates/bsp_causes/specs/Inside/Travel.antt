-- Which requests travel again, by sets of processes: what private functions ask and promise.
use Rattle.std.specs.Prelude.{◌≡◌, ℕ, ◌+◌, ◌<◌, ◌≤◌, ◌^◌, Bool, false, ◌&&◌, not, All, List, length, slice_index_or}
use Rattle.bsp_model.specs.Limits.{most_processes}
use Rattle.bsp_model.specs.Same.{same_words}
use Rattle.bsp_model.specs.declared.request.Get.{Get}
use Rattle.bsp_step.specs.OutcomeParts.{OutcomeParts}
use Rattle.bsp_deliver.specs.Requests.{words_read}
use Rattle.bsp_causes.specs.Travel.{outcomes_again, requests_again}
use Rattle.bsp_causes.specs.UpdateCost.{is_one_of}
use Rattle.bsp_causes.specs.declared.travel.Redone.{Redone}

-- the get reads other words
abbrev pub reads_other : List OutcomeParts → List OutcomeParts → Get → Bool
reads_other before after g = not (same_words (words_read before g) (words_read after g))

abbrev pub is_in : List Bool → ℕ → Bool
is_in set p = slice_index_or set p false

-- the requests of process p that travel again
abbrev pub requests_of : Redone → List OutcomeParts → List OutcomeParts → ℕ → OutcomeParts → OutcomeParts
requests_of redone before after p o =
    requests_again (is_in redone.turned p) (is_in redone.delivered) (λ g. is_in redone.delivered p && reads_other before after g) o

-- those of all processes
abbrev pub requests_in : Redone → List OutcomeParts → List OutcomeParts → List OutcomeParts → List OutcomeParts
requests_in redone before after os = outcomes_again (is_in redone.turned) (is_in redone.delivered) (reads_other before after) 0 os

-- the words that a get reads have addresses
pub record HasAddresses (g : Get) : Type 0 where
  pub within : g.start + g.len < 2 ^ 64

-- the puts and the messages are to processes below n
pub record AreTargetsBelow (n : ℕ) (o : OutcomeParts) : Type 0 where
  pub puts : All (λ p. p.target < n) o.puts
  pub sends : All (λ m. m.target < n) o.sends

-- no more outcomes than there may be, with requests to processes that there may be, and words that have addresses
pub record AreBounded (os : List OutcomeParts) : Type 0 where
  pub few : length os ≤ most_processes
  pub targets : All (AreTargetsBelow most_processes) os
  pub addresses : All (λ o. All HasAddresses o.gets) os

-- the sets have these of all processes that there may be
pub record IsRedone (redone : Redone) (ts ds : List ℕ) : Type 0 where
  pub turned : (p : ℕ) → p < most_processes → is_in redone.turned p ≡ is_one_of ts p
  pub delivered : (p : ℕ) → p < most_processes → is_in redone.delivered p ≡ is_one_of ds p
