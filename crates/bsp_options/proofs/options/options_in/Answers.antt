use Rattle.std.proofs.Common.{◌∙◌, ap, codes}
use Rattle.std.specs.Str.Parse.{ParsesUnsigned, ExplainsUnsignedError, HasUnsignedDigitsIfOk}
use Rattle.clap.specs.Words.{found_of, one_text}
use Rattle.clap.proofs.WalkLemmas.{one_text-rows}
use Rattle.bsp_options.specs.Options.{workers_of, is_given}
use Rattle.bsp_options.proofs.Optional.{reads_workers}
use Rattle.bsp_options.proofs.options.options_in.Goals as goal

pub returns : goal.returns
returns c =
    let found = found_of c.args.matches.now in
    let text = one_text found (codes "workers") in
    let read = reads_workers (λ bs r. ParsesUnsigned 8 10 bs r × ExplainsUnsignedError 10 bs r × HasUnsignedDigitsIfOk bs r) (λ u r h. h.0) text c.get_one.result c.get_one.ensures.none c.get_one.ensures.value in
    let workers = c.number_or_1.ensures ∙ read ∙ ap workers_of (one_text-rows found (codes "workers")) in
    let scratch = c.is_given.ensures ∙ ap is_given (one_text-rows found (codes "scratch")) in
    let quiet = c.is_given-2.ensures ∙ ap is_given (one_text-rows found (codes "quiet")) in
    rw (workers, scratch, c.detail_in.ensures, quiet)
