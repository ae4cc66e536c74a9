-- Outcomes in columns: one more, and a range of others.
use Rattle.std.proofs.Common.{◌≡◌, ◌≤◌, ◌<◌, ℕ, ◌+◌, ◌-◌, List, [], ◌∷◌, ◌++◌, length, map, get_or, refl, sym, ap, ◌∙◌, subst, arith, inl, inr, Result, Ok, Err, OnErr}
use Rattle.std.specs.Prelude.{slice_get, slice_range, All, Bool, Option, None, true, false}
use Rattle.std.specs.Bool.{OnTrue}
use Rattle.bsp_model.specs.Columns.{row_at}
use Rattle.std.proofs.Math.Nat.{eq-or-lt_of_le}
use Rattle.std.proofs.Math.Seq.{get_or-append_right}
use Rattle.std.proofs.lemmas.Bool.{cases_lt}
use Rattle.std.proofs.lemmas.List.{ext_get_or, length-map, get_or-map, same_lists, get_or_append_left, get_or_push, length_push, length-append}
use Rattle.std.proofs.lemmas.List.FromFn.{length-map-range_with_len, get_or-map-range_with_len}
use Rattle.std.proofs.lemmas.List.Edits.{length-between, get_or-between}
use Rattle.bsp_model.specs.Limits.{most_memory_words}
use Rattle.bsp_model.specs.Inside.Beside.{stores_in, HaveWords}
use Rattle.bsp_model.specs.Inside.Columns.{pair_at}
use Rattle.bsp_model.specs.declared.range.Range.{Range}
use Rattle.bsp_step.specs.declared.list_kind.ListKind.{ListKind}
use Rattle.bsp_step.specs.declared.list_kind.ListKind.TheVariants.{Faults, Gets, Sends, Pops, Pushes, Tags, Lines}
use Rattle.bsp_step.specs.declared.lists.Lists.{Lists}
use Rattle.bsp_step.specs.declared.lists.TurnEnd.{TurnEnd}
use Rattle.bsp_step.specs.OutcomeParts.{OutcomeParts, IsOutcome, no_outcome}
use Rattle.bsp_step.specs.ListKind.{IsWithout}
use Rattle.bsp_step.specs.Inside.Outcomes.{first_at, kept_beside, IsWithoutColumn, no_end, outcome_in, outcome_at, outcomes_of, AreOutcomes, HasLists, AreSameLists}

-- the outcomes of a list, one by one

pub length-outcomes_of : (ends : List TurnEnd) (memories : List (List ℕ)) (lists : Lists) → length (outcomes_of ends memories lists) ≡ length ends
length-outcomes_of ends memories lists = length-map-range_with_len (outcome_at ends memories lists) 0 (length ends)

pub outcome-outcomes_of : (ends : List TurnEnd) (memories : List (List ℕ)) (lists : Lists) (k : ℕ) (d : OutcomeParts) → k < length ends → get_or (outcomes_of ends memories lists) k d ≡ outcome_at ends memories lists k
outcome-outcomes_of ends memories lists k d within = get_or-map-range_with_len (outcome_at ends memories lists) 0 (length ends) k k d within (omega arith)

-- the memories of all
pub memories-outcomes_of : (ends : List TurnEnd) (memories : List (List ℕ)) (lists : Lists) → length memories ≡ length ends → map (λ (o : OutcomeParts). o.memory) (outcomes_of ends memories lists) ≡ memories
memories-outcomes_of ends memories lists count =
    let all = outcomes_of ends memories lists in
    let many = length-outcomes_of ends memories lists in
    ext_get_or [] _ _ (length-map all (λ (o : OutcomeParts). o.memory) ∙ many ∙ sym count)
    (λ k inside.
    let below : k < length ends = omega (arith, inside, length-map all (λ (o : OutcomeParts). o.memory), many) in
    get_or-map (λ (o : OutcomeParts). o.memory) all k no_outcome [] (omega (arith, below, many))
    ∙ ap (λ (o : OutcomeParts). o.memory) (outcome-outcomes_of ends memories lists k no_outcome below))

-- where no list of a kind stands

none_left : {R X : Type 0} (of : OutcomeParts → X) (nothing : X) (read : List (List R) → ℕ → X) (column : List (List R)) (ends : List TurnEnd) (memories : List (List ℕ)) (lists : Lists)
    → ((k : ℕ) → of (outcome_at ends memories lists k) ≡ read column k) → ((k : ℕ) → read [] k ≡ nothing) → column ≡ []
    → All (λ o. of o ≡ nothing) (outcomes_of ends memories lists)
none_left of nothing read column ends memories lists left empty none =
    λ k d inside.
    ap of (outcome-outcomes_of ends memories lists k d (omega (arith, inside, length-outcomes_of ends memories lists)))
    ∙ left k ∙ ap (λ rows. read rows k) none ∙ empty k

without_column : (kind : ListKind) (ends : List TurnEnd) (memories : List (List ℕ)) (lists : Lists) → IsWithoutColumn kind lists → All (IsWithout kind) (outcomes_of ends memories lists)
without_column Faults ends memories lists none = none_left (λ o. o.fault) None first_at lists.faults ends memories lists (λ k. refl) (λ k. refl) none
without_column Gets ends memories lists none = none_left (λ o. o.gets) [] row_at lists.gets ends memories lists (λ k. refl) (λ k. refl) none
without_column Sends ends memories lists none = none_left (λ o. o.sends) [] row_at lists.sends ends memories lists (λ k. refl) (λ k. refl) none
without_column Pops ends memories lists none = none_left (λ o. o.pops) [] row_at lists.pops ends memories lists (λ k. refl) (λ k. refl) none
without_column Pushes ends memories lists none = none_left (λ o. o.pushes) [] row_at lists.pushes ends memories lists (λ k. refl) (λ k. refl) none
without_column Tags ends memories lists none = none_left (λ o. o.tag) None first_at lists.tags ends memories lists (λ k. refl) (λ k. refl) none
without_column Lines ends memories lists none = none_left (λ o. o.lines) [] row_at lists.lines ends memories lists (λ k. refl) (λ k. refl) none

pub without : (kind : ListKind) (ends : List TurnEnd) (memories : List (List ℕ)) (lists : Lists) (is : Bool) → OnTrue is (IsWithoutColumn kind lists) → OnTrue is (All (IsWithout kind) (outcomes_of ends memories lists))
without kind ends memories lists false none = tt
without kind ends memories lists true none = without_column kind ends memories lists none

-- the same two rows of a process, beside the same end and the same memory, have their words as well
same_beside : (old new : (List (List Range)) × (List (List ℕ))) (j k : ℕ) (end end' : TurnEnd) (memory memory' : List ℕ) → pair_at new k ≡ pair_at old j → end' ≡ end → memory' ≡ memory
    → HaveWords (kept_beside end.stored (pair_at old j)) memory → HaveWords (kept_beside end'.stored (pair_at new k)) memory'
same_beside old new j k end end' memory memory' rows es ms beside =
    subst (λ (pair : (List Range) × (List ℕ)). HaveWords (kept_beside end'.stored pair) memory') (sym rows)
    (subst (λ (e : TurnEnd). HaveWords (kept_beside e.stored (pair_at old j)) memory') (sym es)
    (subst (HaveWords (kept_beside end.stored (pair_at old j))) (sym ms) beside))

-- what an outcome is made of is the same
same_outcome : (end end' : TurnEnd) (memory memory' : List ℕ) (lists lists' : Lists) (j k : ℕ) → end' ≡ end → memory' ≡ memory → AreSameLists lists j lists' k → outcome_in end' memory' lists' k ≡ outcome_in end memory lists j
same_outcome end end' memory memory' lists lists' j k es ms ls =
    λ i. record {
      fault = slice_get (ls.faults i) 0;
      ended = (es i).ended;
      memory = ms i;
      stores = stores_in (kept_beside (es i).stored (ls.stores i)) (ms i);
      puts = ls.puts i;
      gets = ls.gets i;
      sends = ls.sends i;
      pops = ls.pops i;
      pushes = ls.pushes i;
      tag = slice_get (ls.tags i) 0;
      lines = ls.lines i;
      work = (es i).work;
    }

-- one more

-- how the turn of an outcome ended, with the range that is kept beside that
abbrev pub end_of : Option Range → OutcomeParts → TurnEnd
end_of stored o = record { ended = o.ended; work = o.work; stored = stored }

before_push : (ends : List TurnEnd) (memories : List (List ℕ)) (lists lists' : Lists) (end : TurnEnd) (memory : List ℕ) → length memories ≡ length ends → ((k : ℕ) → k < length ends → AreSameLists lists k lists' k)
    → (k : ℕ) → k < length ends → outcome_at (ends ++ end ∷ []) (memories ++ memory ∷ []) lists' k ≡ outcome_at ends memories lists k
before_push ends memories lists lists' end memory count same k below =
    same_outcome (get_or ends k no_end) (get_or (ends ++ end ∷ []) k no_end) (get_or memories k []) (get_or (memories ++ memory ∷ []) k []) lists lists' k k
    (get_or_append_left ends (end ∷ []) no_end k below) (get_or_append_left memories (memory ∷ []) [] k (omega (arith, below, count))) (same k below)

at_push : (ends : List TurnEnd) (memories : List (List ℕ)) (lists : Lists) (end : TurnEnd) (memory : List ℕ) (stored : Option Range) (o : OutcomeParts) → length memories ≡ length ends
    → HasLists stored lists (length ends) memory o → end ≡ end_of stored o → outcome_at (ends ++ end ∷ []) (memories ++ memory ∷ []) lists (length ends) ≡ record o { memory = memory }
at_push ends memories lists end memory stored o count has is =
    let es : get_or (ends ++ end ∷ []) (length ends) no_end ≡ end_of stored o = get_or_push ends end no_end (length ends) refl ∙ is in
    let ms : get_or (memories ++ memory ∷ []) (length ends) [] ≡ memory = get_or_push memories memory [] (length ends) count in
    λ i. record {
      fault = has.rare.faults i;
      ended = (es i).ended;
      memory = ms i;
      stores = (ap (λ (e : TurnEnd). stores_in (kept_beside e.stored (pair_at lists.stores (length ends))) (get_or (memories ++ memory ∷ []) (length ends) [])) es
          ∙ ap (stores_in (kept_beside stored (pair_at lists.stores (length ends)))) ms ∙ has.stores) i;
      puts = has.puts i;
      gets = has.rare.gets i;
      sends = has.rare.sends i;
      pops = has.rare.pops i;
      pushes = has.rare.pushes i;
      tag = has.rare.tags i;
      lines = has.rare.lines i;
      work = (es i).work;
    }

-- an outcome keeps the limits with another memory that does
pub with_memory : (o : OutcomeParts) (memory : List ℕ) → IsOutcome o → length memory ≤ most_memory_words → IsOutcome (record o { memory = memory })
with_memory o memory is short =
    record {
      halts = is.halts;
      short_memory = short;
      few_requests = is.few_requests;
      sends = is.sends;
      tag = is.tag;
      lines = is.lines;
      little_work = is.little_work;
    }

-- each process of one more
pub each_push : (P : ℕ → Type 0) (n k : ℕ) → k < n + 1 → ((j : ℕ) → j < n → P j) → P n → P k
each_push P n k within before last =
    elim (eq-or-lt_of_le {n = k} {m = n} (omega (arith, within))) [
      | inl same ↦ subst P (sym same) last
      | inr below ↦ before k below
    ]

pub outcomes-push : (ends : List TurnEnd) (memories : List (List ℕ)) (lists lists' : Lists) (end : TurnEnd) (memory : List ℕ) (stored : Option Range) (o : OutcomeParts) → length memories ≡ length ends
    → ((k : ℕ) → k < length ends → AreSameLists lists k lists' k) → HasLists stored lists' (length ends) memory o → end ≡ end_of stored o
    → outcomes_of (ends ++ end ∷ []) (memories ++ memory ∷ []) lists' ≡ outcomes_of ends memories lists ++ record o { memory = memory } ∷ []
outcomes-push ends memories lists lists' end memory stored o count same has is =
    let n = length ends in
    let all = outcomes_of (ends ++ end ∷ []) (memories ++ memory ∷ []) lists' in
    let front = outcomes_of ends memories lists in
    let long : length front ≡ n = length-outcomes_of ends memories lists in
    let more : length (ends ++ end ∷ []) ≡ n + 1 = length_push ends end in
    let alike : (k : ℕ) (d : OutcomeParts) → k < n + 1 → get_or all k d ≡ get_or (front ++ record o { memory = memory } ∷ []) k d =
    λ k d within. each_push (λ j. get_or all j d ≡ get_or (front ++ record o { memory = memory } ∷ []) j d) n k within
    (λ j below. outcome-outcomes_of (ends ++ end ∷ []) (memories ++ memory ∷ []) lists' j d (omega (arith, below, more))
    ∙ before_push ends memories lists lists' end memory count same j below
    ∙ sym (outcome-outcomes_of ends memories lists j d below)
    ∙ sym (get_or_append_left front (record o { memory = memory } ∷ []) d j (omega (arith, below, long))))
    (outcome-outcomes_of (ends ++ end ∷ []) (memories ++ memory ∷ []) lists' n d (omega (arith, more))
    ∙ at_push ends memories lists' end memory stored o count has is
    ∙ sym (get_or_push front (record o { memory = memory }) d n long)) in
    same_lists _ _ (length-outcomes_of _ _ lists' ∙ more ∙ sym (length_push front (record o { memory = memory }) ∙ ap (λ (m : ℕ). m + 1) long))
    (λ k d within. alike k d (omega (arith, within, length-outcomes_of (ends ++ end ∷ []) (memories ++ memory ∷ []) lists', more)))

pub lawful-push : (ends : List TurnEnd) (memories : List (List ℕ)) (lists lists' : Lists) (end : TurnEnd) (memory : List ℕ) (stored : Option Range) (o : OutcomeParts) → AreOutcomes ends memories lists
    → ((k : ℕ) → k < length ends → AreSameLists lists k lists' k) → HasLists stored lists' (length ends) memory o → end ≡ end_of stored o → IsOutcome o → length memory ≤ most_memory_words
    → AreOutcomes (ends ++ end ∷ []) (memories ++ memory ∷ []) lists'
lawful-push ends memories lists lists' end memory stored o are same has is lawful short =
    let kept : ℕ → Type 0 = λ j. HaveWords (kept_beside (get_or (ends ++ end ∷ []) j no_end).stored (pair_at lists'.stores j)) (get_or (memories ++ memory ∷ []) j []) in
    let last : get_or (ends ++ end ∷ []) (length ends) no_end ≡ end_of stored o = get_or_push ends end no_end (length ends) refl ∙ is in
    record {
      count = length_push memories memory ∙ ap (λ (m : ℕ). m + 1) are.count ∙ sym (length_push ends end);
      beside = λ k within. each_push kept (length ends) k (omega (arith, within, length_push ends end))
          (λ j below. same_beside lists.stores lists'.stores j j (get_or ends j no_end) (get_or (ends ++ end ∷ []) j no_end) (get_or memories j []) (get_or (memories ++ memory ∷ []) j []) (same j below).stores
          (get_or_append_left ends (end ∷ []) no_end j below) (get_or_append_left memories (memory ∷ []) [] j (omega (arith, below, are.count))) (are.beside j below))
          (subst (λ (e : TurnEnd). HaveWords (kept_beside e.stored (pair_at lists'.stores (length ends))) (get_or (memories ++ memory ∷ []) (length ends) [])) (sym last)
          (subst (HaveWords (kept_beside stored (pair_at lists'.stores (length ends)))) (sym (get_or_push memories memory [] (length ends) are.count)) has.beside));
      lawful = λ k within. each_push (λ j. IsOutcome (outcome_at (ends ++ end ∷ []) (memories ++ memory ∷ []) lists' j)) (length ends) k (omega (arith, within, length_push ends end))
          (λ j below. subst IsOutcome (sym (before_push ends memories lists lists' end memory are.count same j below)) (are.lawful j below))
          (subst IsOutcome (sym (at_push ends memories lists' end memory stored o are.count has is)) (with_memory o memory lawful short));
    }

-- other lists that the processes have alike

pub same-outcomes : (ends : List TurnEnd) (memories : List (List ℕ)) (lists lists' : Lists) → ((k : ℕ) → k < length ends → AreSameLists lists k lists' k) → outcomes_of ends memories lists' ≡ outcomes_of ends memories lists
same-outcomes ends memories lists lists' same =
    same_lists _ _ (length-outcomes_of ends memories lists' ∙ sym (length-outcomes_of ends memories lists))
    (λ k d within.
    let below : k < length ends = omega (arith, within, length-outcomes_of ends memories lists') in
    outcome-outcomes_of ends memories lists' k d below ∙ same_outcome (get_or ends k no_end) (get_or ends k no_end) (get_or memories k []) (get_or memories k []) lists lists' k k refl refl (same k below)
    ∙ sym (outcome-outcomes_of ends memories lists k d below))

-- One more outcome, at the names that its parts have where it is put.

-- the processes before have the lists that they had
pub same_below : (l old new : Lists) (len n : ℕ) → l ≡ old → len ≡ n → ((k : ℕ) → k < len → AreSameLists l k new k) → (k : ℕ) → k < n → AreSameLists old k new k
same_below l old new len n is long same k below = subst (λ (m : Lists). AreSameLists m k new k) is (same k (omega (arith, below, long)))

-- what is known of the lists behind, of the columns themselves
pub taken_behind : (l more new : Lists) (len n from to : ℕ) → l ≡ more → len ≡ n → ((k : ℕ) → len ≤ k → k < len + (to - from) → AreSameLists l (from + (k - len)) new k)
    → (k : ℕ) → n ≤ k → k < n + (to - from) → AreSameLists more (from + (k - n)) new k
taken_behind l more new len n from to is many same =
    subst (λ (m : ℕ). (k : ℕ) → m ≤ k → k < m + (to - from) → AreSameLists more (from + (k - m)) new k) many
    (subst (λ (lists : Lists). (k : ℕ) → len ≤ k → k < len + (to - from) → AreSameLists lists (from + (k - len)) new k) is same)

-- so they have the outcomes that they had
pub unchanged-below : (ends : List TurnEnd) (memories : List (List ℕ)) (l old new : Lists) (len : ℕ) (outcomes : List OutcomeParts) → l ≡ old → len ≡ length ends → ((k : ℕ) → k < len → AreSameLists l k new k) → outcomes_of ends memories old ≡ outcomes → outcomes_of ends memories new ≡ outcomes
unchanged-below ends memories l old new len outcomes is long same before = same-outcomes ends memories old new (same_below l old new len (length ends) is long same) ∙ before

-- the lists of a process
pub has_there : (stored : Option Range) (lists : Lists) (len n : ℕ) (m memory : List ℕ) (o outcome : OutcomeParts) → len ≡ n → m ≡ memory → o ≡ outcome → HasLists stored lists len m o → HasLists stored lists n memory outcome
has_there stored lists len n m memory o outcome place is same has =
    subst (λ (k : ℕ). HasLists stored lists k memory outcome) place (subst (λ (ws : List ℕ). HasLists stored lists len ws outcome) is (subst (HasLists stored lists len m) same has))

-- a range of others

-- an item behind those in front
behind : {X : Type 0} (front more : List X) (d : X) (k from to : ℕ) {n : ℕ} → length front ≡ n → n ≤ k → k < n + (to - from) → get_or (front ++ slice_range more from to) k d ≡ get_or more (from + (k - n)) d
behind front more d k from to {n = n} long above below =
    get_or-append_right front (slice_range more from to) k d (omega (arith, above, long)) ∙ get_or-between more from to (k - length front) d (omega (arith, above, below, long))
    ∙ ap (λ (m : ℕ). get_or more (from + (k - m)) d) long

-- the outcome of each process, in front and behind
at_range : (ends more_ends : List TurnEnd) (memories more_memories : List (List ℕ)) (lists more lists' : Lists) (from to : ℕ) → length memories ≡ length ends
    → ((k : ℕ) → k < length ends → AreSameLists lists k lists' k) → ((k : ℕ) → length ends ≤ k → k < length ends + (to - from) → AreSameLists more (from + (k - length ends)) lists' k)
    → ((k : ℕ) → k < length ends → outcome_at (ends ++ slice_range more_ends from to) (memories ++ slice_range more_memories from to) lists' k ≡ outcome_at ends memories lists k)
    × ((k : ℕ) → length ends ≤ k → k < length ends + (to - from)
    → outcome_at (ends ++ slice_range more_ends from to) (memories ++ slice_range more_memories from to) lists' k ≡ outcome_at more_ends more_memories more (from + (k - length ends)))
at_range ends more_ends memories more_memories lists more lists' from to count before taken =
    let n = length ends in (
      λ k below.
          same_outcome (get_or ends k no_end) _ (get_or memories k []) _ lists lists' k k
          (get_or_append_left ends (slice_range more_ends from to) no_end k below) (get_or_append_left memories (slice_range more_memories from to) [] k (omega (arith, below, count))) (before k below),
      λ k above below.
          let there = from + (k - n) in
          same_outcome (get_or more_ends there no_end) _ (get_or more_memories there []) _ more lists' there k
          (behind ends more_ends no_end k from to refl above below) (behind memories more_memories [] k from to count above below) (taken k above below),
    )

-- a place in front of another or from it on
each_range : (P : ℕ → Type 0) (n to k : ℕ) → k < to → ((j : ℕ) → j < n → P j) → ((j : ℕ) → n ≤ j → j < to → P j) → P k
each_range P n to k within before after =
    elim (cases_lt k n) [
      | inl below ↦ before k below
      | inr above ↦ after k above within
    ]

pub outcomes-range : (ends more_ends : List TurnEnd) (memories more_memories : List (List ℕ)) (lists more lists' : Lists) (from to : ℕ) → length memories ≡ length ends → to ≤ length more_ends
    → ((k : ℕ) → k < length ends → AreSameLists lists k lists' k) → ((k : ℕ) → length ends ≤ k → k < length ends + (to - from) → AreSameLists more (from + (k - length ends)) lists' k)
    → outcomes_of (ends ++ slice_range more_ends from to) (memories ++ slice_range more_memories from to) lists' ≡ outcomes_of ends memories lists ++ slice_range (outcomes_of more_ends more_memories more) from to
outcomes-range ends more_ends memories more_memories lists more lists' from to count within before taken =
    let n = length ends in
    let all_ends = ends ++ slice_range more_ends from to in
    let all_memories = memories ++ slice_range more_memories from to in
    let all = outcomes_of all_ends all_memories lists' in
    let front = outcomes_of ends memories lists in
    let others = outcomes_of more_ends more_memories more in
    let long : length front ≡ n = length-outcomes_of ends memories lists in
    let many : length all_ends ≡ n + (to - from) = omega (arith, length-append ends (slice_range more_ends from to), length-between more_ends from to within) in
    let other : length others ≡ length more_ends = length-outcomes_of more_ends more_memories more in
    let at = at_range ends more_ends memories more_memories lists more lists' from to count before taken in
    same_lists _ _ (omega (arith, many, long, length-outcomes_of all_ends all_memories lists', length-append front (slice_range others from to), length-between others from to (omega (arith, within, other))))
    (λ k d l. each_range (λ j. get_or all j d ≡ get_or (front ++ slice_range others from to) j d) n (n + (to - from)) k (omega (arith, l, many, length-outcomes_of all_ends all_memories lists'))
    (λ j below. outcome-outcomes_of all_ends all_memories lists' j d (omega (arith, below, many)) ∙ at.0 j below ∙ sym (outcome-outcomes_of ends memories lists j d below)
    ∙ sym (get_or_append_left front (slice_range others from to) d j (omega (arith, below, long))))
    (λ j above below. outcome-outcomes_of all_ends all_memories lists' j d (omega (arith, below, many)) ∙ at.1 j above below
    ∙ sym (outcome-outcomes_of more_ends more_memories more (from + (j - n)) d (omega (arith, above, below, within)))
    ∙ sym (behind front others d j from to long above below)))

pub lawful-range : (ends more_ends : List TurnEnd) (memories more_memories : List (List ℕ)) (lists more lists' : Lists) (from to : ℕ) → AreOutcomes ends memories lists → AreOutcomes more_ends more_memories more → to ≤ length more_ends
    → ((k : ℕ) → k < length ends → AreSameLists lists k lists' k) → ((k : ℕ) → length ends ≤ k → k < length ends + (to - from) → AreSameLists more (from + (k - length ends)) lists' k)
    → AreOutcomes (ends ++ slice_range more_ends from to) (memories ++ slice_range more_memories from to) lists'
lawful-range ends more_ends memories more_memories lists more lists' from to are others within before taken =
    let n = length ends in
    let all_ends = ends ++ slice_range more_ends from to in
    let all_memories = memories ++ slice_range more_memories from to in
    let many : length (ends ++ slice_range more_ends from to) ≡ n + (to - from) = omega (arith, length-append ends (slice_range more_ends from to), length-between more_ends from to within) in
    let at = at_range ends more_ends memories more_memories lists more lists' from to are.count before taken in
    record {
      count = omega (arith, many, are.count, length-append memories (slice_range more_memories from to), length-between more_memories from to (omega (arith, within, others.count)));
      beside = λ k l. each_range (λ j. HaveWords (kept_beside (get_or all_ends j no_end).stored (pair_at lists'.stores j)) (get_or all_memories j [])) n (n + (to - from)) k (omega (arith, l, many))
          (λ j below. same_beside lists.stores lists'.stores j j (get_or ends j no_end) (get_or all_ends j no_end) (get_or memories j []) (get_or all_memories j []) (before j below).stores
          (get_or_append_left ends (slice_range more_ends from to) no_end j below) (get_or_append_left memories (slice_range more_memories from to) [] j (omega (arith, below, are.count))) (are.beside j below))
          (λ j above below.
          let there = from + (j - n) in
          same_beside more.stores lists'.stores there j (get_or more_ends there no_end) (get_or all_ends j no_end) (get_or more_memories there []) (get_or all_memories j []) (taken j above below).stores
          (behind ends more_ends no_end j from to refl above below) (behind memories more_memories [] j from to are.count above below) (others.beside there (omega (arith, above, below, within))));
      lawful = λ k l. each_range (λ j. IsOutcome (outcome_at (ends ++ slice_range more_ends from to) (memories ++ slice_range more_memories from to) lists' j)) n (n + (to - from)) k (omega (arith, l, many))
          (λ j below. subst IsOutcome (sym (at.0 j below)) (are.lawful j below))
          (λ j above below. subst IsOutcome (sym (at.1 j above below)) (others.lawful (from + (j - n)) (omega (arith, above, below, within))));
    }

-- what holds anyhow holds after an error
pub on_err : {T E : Type 0} (P : Type 0) (answer : Result T E) → P → OnErr answer P
on_err P (Ok x) is = tt
on_err P (Err e) is = is
