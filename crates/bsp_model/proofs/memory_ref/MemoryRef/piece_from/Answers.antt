use Rattle.std.proofs.Common.{◌/◌, ◌-◌, get_or, length, ap, ◌∙◌, arith}
use Rattle.std.proofs.lemmas.List.{take_rest, get_or_default}
use Rattle.bsp_model.proofs.Pages.{words_len}
use Rattle.bsp_model.proofs.Rests.{rest_full, all_rest, page_is_piece, rest_is_piece, rest_is_long, past_rest}
use Rattle.bsp_model.proofs.memory_ref.MemoryRef.piece_from.Goals as goal

pub returns-then-number-self-clause-there : goal.returns-then-number-self-clause-there
returns-then-number-self-clause-there c =
    let page = get_or c.self.inside.pages.now (c.args.address / 64) c.index-self-number.result in
    page_is_piece c.args.self.now c.words_from.result.now c.args.address
    (c.words_from.ensures.words
    ∙ rest_full c.self.inside.pages.now page c.self.inside.last.now _ _ c.args.address c.self.view_is c.self.invariant (omega arith) (get_or_default c.self.inside.pages.now (c.args.address / 64) c.index-self-number.result page (omega arith)) c.words_from.ensures.len)

pub returns-then-number-self-clause-rest : goal.returns-then-number-self-clause-rest
returns-then-number-self-clause-rest c =
    let page = get_or c.self.inside.pages.now (c.args.address / 64) c.index-self-number.result in
    omega (
      arith,
      ap length
          (c.words_from.ensures.words
          ∙ rest_full c.self.inside.pages.now page c.self.inside.last.now _ _ c.args.address c.self.view_is c.self.invariant (omega arith) (get_or_default c.self.inside.pages.now (c.args.address / 64) c.index-self-number.result page (omega arith)) c.words_from.ensures.len),
    )

pub returns-then-address-self-clause-rest : goal.returns-then-address-self-clause-rest
returns-then-address-self-clause-rest c = past_rest c.args.self.now c.args.address (omega (arith, words_len _ _ _ _ c.self.view_is))

pub returns-clause-there : goal.returns-clause-there
returns-clause-there c =
    let last = c.self.inside.last.now in
    let start = c.args.address - (c.self.inside.len - length last) in
    let count = c.self.invariant.count in
    rest_is_piece c.args.self.now _ c.args.address (take_rest last start ∙ all_rest c.self.inside.pages.now last _ _ c.args.address start c.self.view_is c.self.invariant (omega arith))

pub returns-clause-rest : goal.returns-clause-rest
returns-clause-rest c =
    let last = c.self.inside.last.now in
    let start = c.args.address - (c.self.inside.len - length last) in
    let count = c.self.invariant.count in
    rest_is_long c.args.self.now _ c.args.address (take_rest last start ∙ all_rest c.self.inside.pages.now last _ _ c.args.address start c.self.view_is c.self.invariant (omega arith))
