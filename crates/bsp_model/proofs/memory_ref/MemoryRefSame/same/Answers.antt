use Rattle.std.proofs.Common.{◌≡◌, sym, ap, ◌∙◌, length, arith}
use Rattle.std.proofs.lemmas.Bool.{false≢true}
use Rattle.std.proofs.lemmas.List.{take_all}
use Rattle.bsp_model.specs.Inside.Pages.{words_of, HasPages}
use Rattle.bsp_model.proofs.Pages.{words_len, same_full, same_last, same_words}
use Rattle.bsp_model.proofs.memory_ref.MemoryRefSame.same.Goals as goal

pub returns-then-self-other : goal.returns-then-self-other
returns-then-self-other c =
    let e = words_len _ _ _ _ c.self.view_is in
    let f = words_len _ _ _ _ c.other.view_is in
    (λ h. absurd (false≢true h), λ h. absurd (c.if-self-other.true (e ∙ ap length h ∙ sym f)))

pub has_same_words-requires-clause-inside : goal.has_same_words-requires-clause-inside
has_same_words-requires-clause-inside c = omega (arith, words_len _ _ _ _ c.self.view_is)

pub has_same_words-requires-clause-inside_other : goal.has_same_words-requires-clause-inside_other
has_same_words-requires-clause-inside_other c = omega (arith, c.if-self-other.false, words_len _ _ _ _ c.other.view_is)

pub has_same_words-requires-clause-fits : goal.has_same_words-requires-clause-fits
has_same_words-requires-clause-fits c = omega (arith, c.self.invariant.fits, words_len _ _ _ _ c.self.view_is)

pub has_same_words-requires-clause-fits_other : goal.has_same_words-requires-clause-fits_other
has_same_words-requires-clause-fits_other c = omega (arith, c.other.invariant.fits, words_len _ _ _ _ c.other.view_is)

pub returns-then-self-other-2 : goal.returns-then-self-other-2
returns-then-self-other-2 c =
    let mine = take_all c.self.inside.len c.args.self.now (omega (arith, words_len _ _ _ _ c.self.view_is)) in
    let others = take_all c.self.inside.len c.args.other.now (omega (arith, c.if-self-other.false, words_len _ _ _ _ c.other.view_is)) in
    (λ yes. sym mine ∙ c.has_same_words.ensures.0 yes ∙ others, λ same. c.has_same_words.ensures.1 (mine ∙ same ∙ sym others))

pub returns-then-not-are_same_pages : goal.returns-then-not-are_same_pages
returns-then-not-are_same_pages c =
    let there : words_of c.other.inside.pages.now c.other.inside.last.now c.self.inside.len ≡ c.args.other.now = rw c.if-self-other.false c.other.view_is in (
      λ h. absurd (false≢true h),
      λ h. absurd (false≢true (sym c.if-not-are_same_pages.true ∙ c.are_same_pages.ensures.1 (same_full _ _ _ _ _ (omega arith) c.self.invariant (c.self.view_is ∙ h ∙ sym there)))),
    )

pub returns : goal.returns
returns c =
    let other : HasPages c.other.inside.pages.now c.other.inside.last.now c.self.inside.len = rw c.if-self-other.false c.other.invariant in
    let there : words_of c.other.inside.pages.now c.other.inside.last.now c.self.inside.len ≡ c.args.other.now = rw c.if-self-other.false c.other.view_is in (
      λ h. sym c.self.view_is ∙ same_words _ _ _ _ _ (omega arith) (c.are_same_pages.ensures.0 c.if-not-are_same_pages.false) (c.are_same_words.ensures.0 h) ∙ there,
      λ h. c.are_same_words.ensures.1 (same_last _ _ _ _ _ (omega arith) c.self.invariant other (c.self.view_is ∙ h ∙ sym there)),
    )
