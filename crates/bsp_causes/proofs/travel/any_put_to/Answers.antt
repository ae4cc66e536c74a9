use Rattle.std.proofs.Common.{◌≡◌, ◌<◌, ◌∙◌, ◌||◌, Bool, true, false, ap, arith, get_or, length, sym}
use Rattle.std.proofs.lemmas.List.Folds.{list_any_at, list_any_more}
use Rattle.bsp_model.specs.declared.request.Put.{Put}
use Rattle.bsp_deliver.proofs.Senders.{item_at}
use Rattle.bsp_causes.specs.Inside.Travel.{is_in}
use Rattle.bsp_causes.proofs.travel.any_put_to.Goals as goal

pub returns-then-contains : goal.returns-then-contains
returns-then-contains c =
    let xs = c.args.puts.now in
    let i = c.loop-place.place in
    let here : i < length xs = omega (arith, c.loop-place-test.true, c.len-place-end.ensures) in
    let x : Put = record { target = c.at.result.target; start = c.at.result.start; words = c.at.result.words.now } in
    let test : Put → Bool = λ (p : Put). is_in c.args.targets.now p.target in
    let passes : test (get_or xs i x) ≡ true = ap test (sym (item_at xs i x c.at.ensures)) ∙ sym c.contains.ensures ∙ c.if-contains.true in
    sym (list_any_at test xs i x here passes)

pub loop-place-preserved : goal.loop-place-preserved
loop-place-preserved c =
    let xs = c.args.puts.now in
    let i = c.loop-place.place in
    let here : i < length xs = omega (arith, c.loop-place-test.true, c.len-place-end.ensures) in
    let x : Put = record { target = c.at.result.target; start = c.at.result.start; words = c.at.result.words.now } in
    let test : Put → Bool = λ (p : Put). is_in c.args.targets.now p.target in
    let fails : test (get_or xs i x) ≡ false = ap test (sym (item_at xs i x c.at.ensures)) ∙ sym c.contains.ensures ∙ c.if-contains.false in
    list_any_more test xs i x here ∙ (λ j. c.loop-place.invariant j || fails j)
