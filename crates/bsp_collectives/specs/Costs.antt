-- What the superstep of a first half costs: its h-relation, where the processes may pass different numbers of words.
use Rattle.std.specs.Prelude.{◌≡◌, ◌<◌, ◌+◌, ◌==◌, ℕ, List, [], if◌then◌else◌, length, max, sum}
use Rattle.bsp_step.specs.Act.{Act}
use Rattle.bsp_step.specs.ViewParts.{ViewParts}
use Rattle.bsp_step.specs.OutcomeParts.{OutcomeParts, outcome_of}
use Rattle.bsp_deliver.specs.Cost.{h_relation, largest}
use Rattle.bsp_deliver.specs.Requests.{each_below}
use Rattle.bsp_collectives.specs.Arrivals.{AllMake}
use Rattle.bsp_collectives.specs.Halves.{all_gather, block, exchange, exchange_parts, gather, part}

-- The outcomes of such a superstep in which no process puts or gets.
pub record AllMakeAlone (half : ℕ → ViewParts → List Act) (view : ℕ → ViewParts) (os : List OutcomeParts) : Type 0 where
  pub make : AllMake half view os
  pub puts : (p : ℕ) → p < length os → (outcome_of os p).puts ≡ []
  pub gets : (p : ℕ) → p < length os → (outcome_of os p).gets ≡ []

-- what goes from p to d of count p d words: words to oneself count nowhere
abbrev pub between : (ℕ → ℕ → ℕ) → ℕ → ℕ → ℕ
between count p d = if p == d then 0 else count p d

-- The largest number of words that one of n processes sends, or receives, where count p d words go from process p to process d.
abbrev pub most_moved : ℕ → (ℕ → ℕ → ℕ) → ℕ
most_moved n count =
    max (largest (each_below n (λ p. sum (each_below n (λ d. between count p d))))) (largest (each_below n (λ d. sum (each_below n (λ p. between count p d)))))

-- A message counts its tag and its words.
abbrev pub message_size : ViewParts → List ℕ → ℕ
message_size v words = v.tag_size + length words

abbrev pub AllGatherCosts : Type 0
AllGatherCosts =
    (words : ℕ → List ℕ) (view : ℕ → ViewParts) (os : List OutcomeParts) → AllMakeAlone (λ p v. all_gather v (words p)) view os
    → h_relation os ≡ most_moved (length os) (λ p d. message_size (view p) (words p))

abbrev pub ExchangeCosts : Type 0
ExchangeCosts =
    (words : ℕ → List ℕ) (size : ℕ → ℕ) (view : ℕ → ViewParts) (os : List OutcomeParts) → AllMakeAlone (λ p v. exchange v (words p) (size p)) view os
    → h_relation os ≡ most_moved (length os) (λ p d. message_size (view p) (block (words p) (size p) d))

abbrev pub ExchangePartsCosts : Type 0
ExchangePartsCosts =
    (words lengths : ℕ → List ℕ) (view : ℕ → ViewParts) (os : List OutcomeParts) → AllMakeAlone (λ p v. exchange_parts v (words p) (lengths p)) view os
    → h_relation os ≡ most_moved (length os) (λ p d. message_size (view p) (part (words p) (lengths p) d))

abbrev pub GatherCosts : Type 0
GatherCosts =
    (root : ℕ) (words : ℕ → List ℕ) (view : ℕ → ViewParts) (os : List OutcomeParts) → AllMakeAlone (λ p v. gather v root (words p)) view os → root < length os
    → h_relation os ≡ most_moved (length os) (λ p d. if d == root then message_size (view p) (words p) else 0)
