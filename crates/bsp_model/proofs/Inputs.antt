-- What it means that an input has no fault.
use Rattle.std.proofs.Common.{◌≡◌, ◌≤◌, ℕ, Bool, true, false, cond, Option, None, Some, List, ◌==◌, ◌&&◌, not, nat_le, nat_lt, length, All, arith, refl, get_or, sym, ◌∙◌}
use Rattle.std.specs.List.{list_all}
use Rattle.std.proofs.lemmas.Bool.{false≢true, and_parts}
use Rattle.std.proofs.lemmas.Bool.Decides.{nat_tests}
use Rattle.std.proofs.lemmas.List.Folds.{list_all_at}
use Rattle.bsp_model.specs.Limits.{highest_price, most_arguments, most_memory_words, most_processes, most_supersteps}
use Rattle.bsp_model.specs.declared.input.Input.{Input}
use Rattle.bsp_model.specs.Input.{input_fault}
use Rattle.bsp_model.specs.Inside.LawfulInput.{IsLawfulInput}

chosen : {X : Type 0} (b : Bool) (x : X) (rest : Option X) → cond b (Some x) rest ≡ None → (b ≡ false) × (rest ≡ None)
chosen true x rest h = cc
chosen false x rest h = (refl, h)

pub not_false : (b : Bool) → not b ≡ false → b ≡ true
not_false true h = refl
not_false false h = cc

-- where a test passes at each element, its meaning holds of each
pub All-from_list_all : {X : Type 0} (p : X → Bool) (P : X → Type 0) → ((x : X) → p x ≡ true → P x) → (xs : List X) → list_all p xs ≡ true → All P xs
All-from_list_all p P f xs h =
    λ k d l. elim (p (get_or xs k d)) as (λ b. p (get_or xs k d) ≡ b → P (get_or xs k d)) [
      | true ↦ λ e. f (get_or xs k d) e
      | false ↦ λ e. absurd (false≢true (sym (list_all_at p xs k d l e) ∙ h))
    ] refl

pub at_most : (bound n : ℕ) → nat_le n bound ≡ true → n ≤ bound
at_most bound n h = grind (arith, nat_tests)

pub lawful_input : (i : Input) → input_fault i ≡ None → IsLawfulInput i
lawful_input i h =
    let none = chosen (length i.mems == 0) _ _ h in
    let many = chosen (nat_lt most_processes (length i.mems)) _ _ none.1 in
    let differ = chosen (not (length i.args == length i.mems)) _ _ many.1 in
    let memories = chosen (not (list_all (λ (m : List ℕ). nat_le (length m) most_memory_words) i.mems)) _ _ differ.1 in
    let arguments = chosen (not (list_all (λ (a : List ℕ). nat_le (length a) most_arguments) i.args)) _ _ memories.1 in
    let limit = chosen (not (nat_le 1 i.limit && nat_le i.limit most_supersteps)) _ _ arguments.1 in
    let price = chosen (not (nat_le i.g highest_price && nat_le i.l highest_price)) _ _ limit.1 in
    let same : (length i.args == length i.mems) ≡ true = not_false _ differ.0 in
    let limits = and_parts (nat_le 1 i.limit) (nat_le i.limit most_supersteps) (not_false _ limit.0) in
    let prices = and_parts (nat_le i.g highest_price) (nat_le i.l highest_price) (not_false _ price.0) in
    record {
      some_process = grind (arith, nat_tests, none.0);
      few_processes = grind (arith, nat_tests, many.0);
      same_count = grind (arith, nat_tests, same);
      short_memories = All-from_list_all _ _ (λ (m : List ℕ) e. at_most most_memory_words (length m) e) i.mems (not_false _ memories.0);
      short_arguments = All-from_list_all _ _ (λ (a : List ℕ) e. at_most most_arguments (length a) e) i.args (not_false _ arguments.0);
      some_superstep = at_most i.limit 1 limits.0;
      few_supersteps = at_most most_supersteps i.limit limits.1;
      small_g = at_most highest_price i.g prices.0;
      small_l = at_most highest_price i.l prices.1;
    }
