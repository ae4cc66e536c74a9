use Rattle.std.proofs.Common.{◌≡◌, ℕ, ◌-◌, ap, arith, drop, length, min, nat_eq, refl, sym, take, ◌∙◌}
use Rattle.bsp_kernels.proofs.Within.{same-within}
use Rattle.bsp_kernels.proofs.looking.are_same_within.Goals as goal

pub returns-then-count-eq0 : goal.returns-then-count-eq0
returns-then-count-eq0 c =
    let m = c.args.old.now in
    let n = c.args.new.now in
    let start = c.min-start.result in
    let none = c.if-count-eq0.true in
    let count : c.min-count.result ≡ min c.args.len (length m - start) = omega (arith, c.min-count.ensures, c.len-2.ensures) in
    ap (λ k. nat_eq k 0) none
    ∙ same-within m n c.args.from c.args.len start c.min-count.result _ c.requires.long (omega (arith, c.min-start.ensures, c.len.ensures)) count
    (λ _. ap (λ (k : ℕ). take k (drop start m)) none ∙ sym (ap (λ (k : ℕ). take k (drop start n)) none), λ _. refl)

pub returns-else-count-eq0 : goal.returns-else-count-eq0
returns-else-count-eq0 c =
    let m = c.args.old.now in
    let start = c.min-start.result in
    same-within m c.args.new.now c.args.from c.args.len start c.min-count.result c.has_same_words.result c.requires.long
    (omega (arith, c.min-start.ensures, c.len.ensures)) (omega (arith, c.min-count.ensures, c.len-2.ensures)) c.has_same_words.ensures
