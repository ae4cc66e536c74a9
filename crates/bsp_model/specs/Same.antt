-- When two lists of words, or two messages, are equal, as tests (this profile).
use Rattle.std.specs.Prelude.{ℕ, Bool, List, ◌&&◌, nat_eq}
use Rattle.std.specs.Cmp.Lexicographic.{pointwise}
use Rattle.bsp_model.specs.declared.request.Message.{Message}

abbrev pub same_words : List ℕ → List ℕ → Bool
same_words = pointwise nat_eq

abbrev pub same_message : Message → Message → Bool
same_message m n = same_words m.tag n.tag && same_words m.words n.words
