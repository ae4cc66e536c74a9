use Rattle.std.proofs.Common.{◌≡◌, ℕ, List, [], ◌∷◌, ◌++◌, length, refl, ap, ◌∙◌, length-append, append_assoc}
use Rattle.bsp_model.specs.Opened.{Opened}
use Rattle.bsp_model.specs.Inside.OpenBlocks.{opened_blocks}
use Rattle.bsp_model.proofs.BlocksOf.{AreBlocks-push, blocks-push}
use Rattle.bsp_model.proofs.columns.open_blocks.OpenBlocks.add_block.Goals as goal

-- words in front and behind
more_words : (old mid new : Opened ℕ) (front back : List ℕ) → mid ≡ record old { last = old.last ++ front } → new ≡ record mid { last = mid.last ++ back } → new ≡ record old { last = old.last ++ (front ++ back) }
more_words old mid new front back first second =
    second ∙ ap (λ (o : Opened ℕ). record o { last = o.last ++ back }) first ∙ ap (λ ws. record old { last = ws }) (append_assoc old.last front back)

-- a head and the end of its words
more_heads : {H : Type 0} (old new : Opened (H × ℕ)) (head : H) (end len : ℕ) → new ≡ record old { last = old.last ++ (head, end) ∷ [] } → end ≡ len → new ≡ record old { last = old.last ++ (head, len) ∷ [] }
more_heads old new head end len is same = is ∙ ap (λ n. record old { last = old.last ++ (head, n) ∷ [] }) same

pub invariant_of-self-in_default-push : goal.invariant_of-self-in_default-push
invariant_of-self-in_default-push g c =
    let b = c.self.inside in
    let more = c.args.front.now ++ c.args.back.now in
    let ws = b.words.last ++ more in
    let words = more_words b.words c.extend.new.self c.extend-2.new.self c.args.front.now c.args.back.now c.in_ok-extend.ensures.ok c.in_default.ensures.ok in
    let heads = more_heads b.heads c.push.new.self c.args.head c.len-end.result (length ws) c.in_default-push.ensures.ok (c.len-end.ensures ∙ ap (λ (o : Opened ℕ). length o.last) words) in
    rw (heads, words)
    record { rows = c.self.invariant.rows; last = AreBlocks-push g.X.Block.IsKept b.heads.last b.words.last more c.args.head (length ws) c.self.invariant.last c.requires (length-append b.words.last more) refl }

pub returns-clause-ok : goal.returns-clause-ok
returns-clause-ok g c =
    let b = c.self.inside in
    let more = c.args.front.now ++ c.args.back.now in
    let ws = b.words.last ++ more in
    let words = more_words b.words c.extend.new.self c.extend-2.new.self c.args.front.now c.args.back.now c.in_ok-extend.ensures.ok c.in_default.ensures.ok in
    let heads = more_heads b.heads c.push.new.self c.args.head c.len-end.result (length ws) c.in_default-push.ensures.ok (c.len-end.ensures ∙ ap (λ (o : Opened ℕ). length o.last) words) in
    let last = blocks-push g.X.Block.of b.heads.last b.words.last more c.args.self.now.last c.args.head (length ws) (ap (λ (o : Opened _). o.last) c.self.view_is) c.self.invariant.last.0 (length-append b.words.last more) in
    let rows = ap (λ (o : Opened _). o.rows) c.self.view_is in
    (λ i. opened_blocks g.X.Block.of (heads i) (words i)) ∙ (λ i. record { rows = rows i; last = last i })
