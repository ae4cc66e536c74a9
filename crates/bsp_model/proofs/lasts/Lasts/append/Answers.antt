use Rattle.std.proofs.Common.{◌≡◌, ◌<◌, ◌++◌, ◌∷◌, [], ℕ, List, get_or, length, take, ap, sym, ◌∙◌, arith, append_assoc}
use Rattle.std.proofs.Math.ListN.{length-set}
use Rattle.std.proofs.lemmas.List.{take_more, get_or_default, get_or-set_other}
use Rattle.bsp_model.proofs.lasts.Lasts.append.Goals as goal

pub loop-number-preserved : goal.loop-number-preserved
loop-number-preserved c =
    let before = c.loop-number.invariant in
    let n = c.loop-number.number in
    let all : List (List ℕ) = c.more.inside.own.items in
    let now : List (List ℕ) = c.loop-number.more-inside.own.items in
    let known : n < length now = omega (arith, c.loop-number-test.true, before.count, before.many, c.more.invariant) in
    let list : c.index_mut-list.result.now ≡ get_or all n [] =
    c.index_mut-list.ensures.value ∙ get_or_default now n c.index_mut-list.result.now [] known ∙ before.behind n (omega arith) in
    record {
      taken = c.in_ok-push_from.ensures.ok
          ∙ ap (λ (w : List ℕ). c.loop-number.self ++ w ∷ []) c.list.view_is
          ∙ ap (λ (ws : List (List ℕ)). ws ++ c.index_mut-list.result.now ∷ []) before.taken
          ∙ append_assoc c.args.self.now (take n all) (c.index_mut-list.result.now ∷ [])
          ∙ ap (λ (w : List ℕ). c.args.self.now ++ (take n all ++ w ∷ [])) list
          ∙ ap (λ (ws : List (List ℕ)). c.args.self.now ++ ws) (sym (take_more all n [] (omega (arith, known, before.many))));
      behind = λ k above. get_or-set_other now n k c.push_from.new.words.items [] (λ e. omega (arith, above, e)) ∙ before.behind k (omega (arith, above));
      many = length-set now n c.push_from.new.words.items ∙ before.many;
      count = before.count;
      rows = before.rows;
      order = omega (arith, c.loop-number-test.true);
      end = before.end;
    }
