use Rattle.std.proofs.Common.{◌∙◌, ap, codes}
use Rattle.clap.specs.Words.{found_of}
use Rattle.clap.proofs.WalkLemmas.{one_text-rows}
use Rattle.bsp_options.specs.Options.{is_given}
use Rattle.bsp_options.proofs.options.detail_in.Goals as goal

pub returns : goal.returns
returns c =
    let found = found_of c.args.matches.now in
    let why = c.is_given-why.ensures ∙ ap is_given (one_text-rows found (codes "why")) in
    let places = c.is_given.ensures ∙ ap is_given (one_text-rows found (codes "places")) in
    let changes = c.is_given-2.ensures ∙ ap is_given (one_text-rows found (codes "changes")) in
    let update_cost = c.is_given-3.ensures ∙ ap is_given (one_text-rows found (codes "update-cost")) in
    rw (places, why, changes, update_cost)
