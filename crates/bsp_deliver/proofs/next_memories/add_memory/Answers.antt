use Rattle.std.proofs.Common.{◌≡◌, List, ℕ, [], ◌∷◌, ◌++◌, length, map, set, get_or, ap, ◌∙◌, arith}
use Rattle.std.proofs.Math.Seq.{get_or-append_seam, set-append_seam}
use Rattle.std.proofs.lemmas.Result.{on_ok_weaker}
use Rattle.bsp_model.specs.declared.request.Get.{Get}
use Rattle.bsp_step.specs.OutcomeParts.{outcome_of}
use Rattle.bsp_deliver.specs.Requests.{words_read}
use Rattle.bsp_deliver.specs.Delivery.{get_write, delivery_parts}
use Rattle.bsp_deliver.specs.Inside.Gathering.{overlay}
use Rattle.bsp_deliver.specs.Condition.{sizes_of, AreRequestsInside}
use Rattle.bsp_deliver.proofs.Senders.{outcome_at, at_item, map_twice}
use Rattle.bsp_deliver.proofs.next_memories.add_memory.Goals as goal

pub write_gets-requires-clause-inside : goal.write_gets-requires-clause-inside
write_gets-requires-clause-inside c =
    let os = c.args.outcomes.now in
    let o = outcome_of os c.args.d in
    let inside = at_item (AreRequestsInside (sizes_of os)) os c.args.d o c.requires.deliverable.inside c.requires.known (outcome_at os c.args.d c.requires.known) in
    let gets : c.gets.result.now ≡ o.gets = c.gets.ensures in
    let memory : c.memory.result ≡ o.memory = c.memory.ensures in
    let there : get_or c.push_copy.new.self c.len-place.result [] ≡ c.memory.result =
    rw (c.in_ok-push_copy.ensures.ok, c.len-place.ensures) (get_or-append_seam c.args.memories.now c.memory.result [] []) in
    let long : length (get_or c.push_copy.new.self c.len-place.result []) ≡ length o.memory = ap length (there ∙ memory) in
    rw gets (λ k q l. let h = inside.gets k q l in record { known = h.known; inside = h.inside; room = omega (arith, h.room, long) })

pub returns : goal.returns
unfolding delivery_parts
returns c =
    let os = c.args.outcomes.now in
    let o = outcome_of os c.args.d in
    let first = c.args.memories.now in
    let G = λ (gs : List Get). map (λ (g : Get). get_write (g, words_read os g)) gs in
    let gets : c.gets.result.now ≡ o.gets = c.gets.ensures in
    let memory : c.memory.result ≡ o.memory = c.memory.ensures in
    let here = λ (ms : List (List ℕ)) (place : ℕ). set ms place (overlay (get_or ms place []) (G c.gets.result.now)) in
    on_ok_weaker c.write_gets.result
    (λ e.
    e
    ∙ ap (λ (ms : List (List ℕ)). here ms c.len-place.result) c.in_ok-push_copy.ensures.ok
    ∙ ap (here (first ++ c.memory.result ∷ [])) c.len-place.ensures
    ∙ ap (λ (m : List ℕ). set (first ++ c.memory.result ∷ []) (length first) (overlay m (G c.gets.result.now))) (get_or-append_seam first c.memory.result [] [])
    ∙ set-append_seam first c.memory.result [] (overlay c.memory.result (G c.gets.result.now))
    ∙ ap (λ (m : List ℕ). first ++ overlay m (G c.gets.result.now) ∷ []) memory
    ∙ ap (λ gs. first ++ overlay o.memory (G gs) ∷ []) gets
    ∙ ap (λ ws. first ++ overlay o.memory ws ∷ []) (map_twice get_write (λ (g : Get). (g, words_read os g)) o.gets))
    c.write_gets.ensures
