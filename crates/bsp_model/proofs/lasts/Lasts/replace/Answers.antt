use Rattle.std.proofs.Common.{◌≡◌, ◌<◌, ◌≤◌, ◌+◌, ◌-◌, ℕ, List, [], ◌++◌, length, get_or, set, take, drop, sym, ap, ◌∙◌, arith}
use Rattle.std.proofs.Math.Seq.{take-set-lt}
use Rattle.std.proofs.lemmas.List.{set-append_left, set-append_right, get_or_append_left, get_or_default, with_items_is, get_or-append_right, get_or-take, length-take-le}
use Rattle.bsp_model.proofs.lasts.Lasts.replace.Goals as goal

-- the words of a process with a list of its own
own : (lists rows now : List (List ℕ)) (count number : ℕ) (row row' : List ℕ) → take count lists ++ rows ≡ now → count ≤ length lists → number < count → row' ≡ row → take count (set lists number row') ++ rows ≡ set now number row
own lists rows now count number row row' is within below same =
    let front : length (take count lists) ≡ count = length-take-le count lists within in
    ap (λ (ls : List (List ℕ)). ls ++ rows) (take-set-lt count lists number row' below)
    ∙ sym (set-append_left (take count lists) rows number row' (omega (arith, front, below)))
    ∙ ap (λ (ls : List (List ℕ)). set ls number row') is
    ∙ ap (set now number) same

-- those of a process whose words lie behind others in one list
behind : (lists rows now : List (List ℕ)) (count number : ℕ) (row row' : List ℕ) → take count lists ++ rows ≡ now → count ≤ length lists → count ≤ number → row' ≡ row → take count lists ++ set rows (number - count) row' ≡ set now number row
behind lists rows now count number row row' is within above same =
    let front : length (take count lists) ≡ count = length-take-le count lists within in
    sym (set-append_right (take count lists) rows count number row' front above)
    ∙ ap (λ (ls : List (List ℕ)). set ls number row') is
    ∙ ap (set now number) same

pub returns-then-number-self : goal.returns-then-number-self
returns-then-number-self c =
    let l = c.self.inside in
    let number = c.args.number in
    let lists : List (List ℕ) = l.own.items in
    let below = c.if-number-self.true in
    let front : length (take l.count lists) ≡ l.count = length-take-le l.count lists c.self.invariant in
    let there : c.index_mut-words.result.now ≡ get_or c.args.self.now number [] =
    c.index_mut-words.ensures.value
    ∙ get_or_default lists number c.index_mut-words.result.now [] (omega (arith, below, c.self.invariant))
    ∙ sym (get_or-take l.count lists number [] below)
    ∙ sym (get_or_append_left (take l.count lists) l.rows [] number (omega (arith, front, below)))
    ∙ ap (λ (ls : List (List ℕ)). get_or ls number []) c.self.view_is in
    own lists l.rows c.args.self.now l.count number _ _ c.self.view_is c.self.invariant below
    (with_items_is c.words.inside.items c.replace_items.new.items (c.replace_items.auto.items ∙ c.as_mut_slice.ensures.len)
    ∙ c.replace_items.ensures
    ∙ ap (λ (ws : List ℕ). take c.args.place ws ++ c.args.items.now ++ drop (c.args.place + length c.args.items.now) ws) (c.as_mut_slice.ensures.value ∙ c.words.view_is ∙ there))

pub returns : goal.returns
returns c =
    let l = c.self.inside in
    let number = c.args.number in
    let lists : List (List ℕ) = l.own.items in
    let above = c.if-number-self.false in
    let front : length (take l.count lists) ≡ l.count = length-take-le l.count lists c.self.invariant in
    let there : get_or l.rows (number - l.count) [] ≡ get_or c.args.self.now number [] =
    sym (get_or-append_right (take l.count lists) l.rows l.count number [] front above) ∙ ap (λ (ls : List (List ℕ)). get_or ls number []) c.self.view_is in
    ap (λ (rs : List (List ℕ)). take l.count lists ++ rs) c.replace.ensures
    ∙ behind lists l.rows c.args.self.now l.count number _ _ c.self.view_is c.self.invariant above
    (ap (λ (ws : List ℕ). take c.args.place ws ++ c.args.items.now ++ drop (c.args.place + length c.args.items.now) ws) there)
