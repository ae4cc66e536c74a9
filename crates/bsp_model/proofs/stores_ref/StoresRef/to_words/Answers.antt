use Rattle.std.proofs.Common.{◌≡◌, ℕ, length, take, drop, true, sym, ap, ◌∙◌, arith}
use Rattle.std.proofs.lemmas.Bool.{OnTrue_at}
use Rattle.std.proofs.lemmas.Bool.Decides.{nat_tests}
use Rattle.std.proofs.lemmas.List.{with_items_is}
use Rattle.bsp_model.proofs.stores_ref.StoresRef.to_words.Goals as goal

pub returns : goal.returns
returns c =
    let words = c.as_mut_slice.result.now in
    let long : length words ≡ length c.args.self.now = omega (arith, c.as_mut_slice.ensures.len, c.in_ok-words.ensures.len, c.len.ensures) in
    let all : c.read.result ≡ true = grind (arith, nat_tests, c.read.ensures.within, long, c.source-source.ensures.inside) in
    with_items_is c.in_ok-words.words c.read.new.words (c.read.auto.words ∙ c.as_mut_slice.ensures.len)
    ∙ OnTrue_at all c.read.ensures.read
    ∙ ap (λ (n : ℕ). take n (drop c.source-source.result.1 c.source-source.result.0)) long
    ∙ sym c.source-source.ensures.there
