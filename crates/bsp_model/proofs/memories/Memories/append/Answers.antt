use Rattle.std.proofs.Common.{◌≡◌, ◌++◌, [], List, ℕ, length, ap, sym, ◌∙◌, arith}
use Rattle.std.specs.Prelude.{slice_range}
use Rattle.bsp_model.specs.Columns.{row_at, AreTaken}
use Rattle.bsp_model.specs.Inside.Memories.{memories_of}
use Rattle.bsp_model.proofs.Appending.{whole, on_ok}
use Rattle.bsp_model.proofs.PagedMemories.{no_memories, length-memories_of, memories_of-more}
use Rattle.bsp_model.proofs.memories.Memories.append.Goals as goal

pub returns-in-Ok-Ok-clause-ok : goal.returns-in-Ok-Ok-clause-ok
returns-in-Ok-Ok-clause-ok c =
    let mine = c.self.inside in
    let more = c.more.inside in
    let there : AreTaken [] (row_at mine.pages) c.len-place.result (row_at more.pages) 0 c.len-count.result (row_at c.append-pages.new.self) =
    on_ok c.append-pages.result c.in-Ok-Ok.field-0-0 c.in-Ok-Ok.is-0 c.append-pages.ensures.ok in
    let taken : AreTaken [] (row_at mine.pages) (length mine.lasts) (row_at more.pages) 0 (length more.lasts) (row_at c.append-pages.new.self) =
    rw (c.len-place.ensures, c.len-count.ensures) at there in
    let behind : c.append-lasts.new.self ≡ mine.lasts ++ more.lasts = on_ok c.append-lasts.result c.in-Ok-Ok.field-0-1 c.in-Ok-Ok.is-1 c.append-lasts.ensures in
    let lasts : c.append-lasts.new.self ≡ mine.lasts ++ slice_range more.lasts 0 (length more.lasts) =
    behind ∙ ap (λ (ls : List (List ℕ)). mine.lasts ++ ls) (sym (whole more.lasts (length more.lasts) (omega arith))) in
    let long : length more.lasts ≡ length c.args.more.now = omega (arith, length-memories_of more.pages more.lasts, ap length c.more.view_is) in
    ap (memories_of c.append-pages.new.self) lasts
    ∙ memories_of-more mine.pages more.pages c.append-pages.new.self mine.lasts more.lasts c.args.self.now c.args.more.now 0 (length more.lasts) (omega arith) c.self.view_is c.more.view_is taken
    ∙ ap (λ (ms : List (List ℕ)). c.args.self.now ++ ms) (whole c.args.more.now (length more.lasts) long)

pub returns-in-Ok-Ok-clause-rest : goal.returns-in-Ok-Ok-clause-rest
returns-in-Ok-Ok-clause-rest c = rw (c.clear.ensures, c.clear-2.ensures) no_memories

pub returns-clause-err : goal.returns-clause-err
returns-clause-err c = rw (c.clear-3.ensures, c.clear-4.ensures) no_memories

pub returns-clause-rest : goal.returns-clause-rest
returns-clause-rest c = rw (c.clear.ensures, c.clear-2.ensures) no_memories
