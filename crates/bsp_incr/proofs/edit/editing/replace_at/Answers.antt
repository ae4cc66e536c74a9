use Rattle.std.proofs.Common.{◌∙◌, ap, slice_set}
use Rattle.std.proofs.lemmas.List.{set-set, set-get_or}
use Rattle.bsp_incr.proofs.edit.editing.replace_at.Goals as goal

pub returns-clause-former : goal.returns-clause-former
returns-clause-former g c =
    let all = c.into_vec-all.result.items in
    let at = c.args.at in
    let former = c.replace-former.result in
    ap (λ xs. slice_set xs at former) (c.replace-2.ensures.after ∙ c.from_vec.ensures) ∙ set-set all at c.replace-former.new.dest former
    ∙ ap (slice_set all at) (c.replace-former.ensures.value ∙ c.index_mut.ensures.value) ∙ set-get_or all at c.index_mut.result.now
    ∙ c.into_vec-all.ensures ∙ c.replace.ensures.value
