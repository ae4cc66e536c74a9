use Rattle.std.proofs.Common.{◌∙◌, ap, codes}
use Rattle.clap.specs.Words.{first_of, found_of}
use Rattle.clap.proofs.WalkLemmas.{first_value-rows}
use Rattle.bsp_options.proofs.options.read_options.Goals as goal

pub returns-clause-follow : goal.returns-clause-follow
returns-clause-follow c =
    c.before.get_str.ensures ∙ first_value-rows (found_of c.before.in_ok-matches.matches) (codes "follow") ∙ ap (first_of (codes "follow")) c.before.in_ok-matches.ensures.rows
