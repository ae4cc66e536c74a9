-- The requests of a superstep, with their senders.
use Rattle.std.specs.Prelude.{ℕ, ◌+◌, List, [], ◌∷◌, ◌++◌, map, slice_index}
use Rattle.std.specs.List.{range_with_len}
use Rattle.bsp_model.specs.declared.request.Put.{Put}
use Rattle.bsp_model.specs.declared.request.Get.{Get}
use Rattle.bsp_model.specs.declared.request.Send.{Send}
use Rattle.bsp_step.specs.OutcomeParts.{OutcomeParts, outcome_of}

-- f of each number below n, in order
abbrev pub each_below : {X : Type 0} → ℕ → (ℕ → X) → List X
each_below n f = map f (range_with_len 0 n)

-- Each request with its sender, by sender, then by issue (order: this profile). The first sender is n.
abbrev pub requests_from : {R : Type 0} → (OutcomeParts → List R) → ℕ → List OutcomeParts → List (ℕ × R)
requests_from of n [] = []
requests_from of n (o ∷ os) = map (λ r. (n, r)) (of o) ++ requests_from of (n + 1) os

unfoldable pub all_puts : List OutcomeParts → List (ℕ × Put)
all_puts os = requests_from (λ o. o.puts) 0 os

unfoldable pub all_gets : List OutcomeParts → List (ℕ × Get)
all_gets os = requests_from (λ o. o.gets) 0 os

unfoldable pub all_sends : List OutcomeParts → List (ℕ × Send)
all_sends os = requests_from (λ o. o.sends) 0 os

-- The words that a get reads: those of the owner's memory after computing (Hill et al. 1998).
abbrev pub words_read : List OutcomeParts → Get → List ℕ
words_read os g = each_below g.len (λ i. slice_index (outcome_of os g.owner).memory (g.start + i))
