use Rattle.std.proofs.Common.{◌≡◌, List, suc, [], ◌∷◌, length, get_or, take, drop, sym, ap, ◌∙◌, arith, add-one, append_assoc}
use Rattle.std.proofs.lemmas.List.{set_split}
use Rattle.bsp_model.proofs.seq.replace_items.Goals as goal

one_item : {X : Type 0} (items : List X) (x : X) → length items ≡ 1 → x ≡ get_or items 0 x → items ≡ x ∷ []
one_item [] x one is = absurd (omega (arith, one))
one_item (y ∷ []) x one is = ap (λ z. z ∷ []) (sym is)
one_item (y ∷ z ∷ rest) x one is = absurd (omega (arith, one))

pub returns-in-len1 : goal.returns-in-len1
returns-in-len1 g c =
    let items = c.args.items.now in
    let start = c.args.start in
    let item = c.item-item.result in
    let one : length c.args.new.now ≡ 1 = omega (arith, c.in-len1) in
    rw (one_item c.args.new.now item one c.item-item.is, add-one)
    (set_split items start item (omega (arith, one, c.requires)) ∙ sym (append_assoc (take start items) (item ∷ []) (drop (suc start) items)))
