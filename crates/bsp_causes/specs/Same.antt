-- When two requests are equal, as tests (this profile).
use Rattle.std.specs.Prelude.{Bool, ◌==◌, ◌&&◌}
use Rattle.bsp_model.specs.Same.{same_words}
use Rattle.bsp_model.specs.declared.request.Put.{Put}
use Rattle.bsp_model.specs.declared.request.Get.{Get}
use Rattle.bsp_model.specs.declared.request.Send.{Send}

abbrev pub same_get : Get → Get → Bool
same_get g h = (g.owner == h.owner) && (g.start == h.start) && (g.len == h.len) && (g.into == h.into)

abbrev pub same_put : Put → Put → Bool
same_put p q = (p.target == q.target) && (p.start == q.start) && same_words p.words q.words

abbrev pub same_send : Send → Send → Bool
same_send m n = (m.target == n.target) && same_words m.tag n.tag && same_words m.words n.words
