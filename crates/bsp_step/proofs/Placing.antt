-- A put or a get that passed its checks lies in an area of the table.
use Rattle.std.proofs.Common.{◌≡◌, ◌≤◌, ◌<◌, ◌+◌, ℕ, List, [], ◌∷◌, ◌++◌, Option, None, Some, length, arith}
use Rattle.std.proofs.lemmas.List.Elements.{All-push}
use Rattle.bsp_model.specs.declared.request.Put.{Put}
use Rattle.bsp_model.specs.declared.request.Get.{Get}
use Rattle.bsp_table.specs.declared.area.Area.{Area}
use Rattle.bsp_table.specs.Table.{area_at, newest}
use Rattle.bsp_step.specs.ViewParts.{ViewParts}
use Rattle.bsp_step.specs.Perform.{target_area}
use Rattle.bsp_step.specs.Requests.{IsPlaced, IsAsked, ArePlaced, AreAsked, LiesIn}

LiesIn-at : (o : Option Area) (a : Area) (offset n : ℕ) → o ≡ Some a → offset + n ≤ a.len → LiesIn o (a.start + offset) n
LiesIn-at o a offset n e h = rw e (omega arith, omega arith)

placed_at : (v : ViewParts) (pid offset : ℕ) (words : List ℕ) (a : Area) (k : Option ℕ) → pid < v.nprocs → area_at v.table k pid ≡ Some a → offset + length words ≤ a.len → IsPlaced v record { target = pid; start = a.start + offset; words = words }
placed_at v pid offset words a None lt e h = cc
placed_at v pid offset words a (Some k) lt e h =
    record { target_below = lt; slot = k; covered = LiesIn-at (area_at v.table (Some k) pid) a offset (length words) e h }

pub ArePlaced-push : (v : ViewParts) (puts : List Put) (pid area offset : ℕ) (words : List ℕ) (a : Area) → ArePlaced v puts → pid < v.nprocs → target_area v pid area ≡ Some a → offset + length words ≤ a.len → ArePlaced v (puts ++ record { target = pid; start = a.start + offset; words = words } ∷ [])
ArePlaced-push v puts pid area offset words a old lt e h =
    record { each = All-push (IsPlaced v) puts _ old.each (placed_at v pid offset words a (newest v.table v.pid area) lt e h) }

asked_at : (v : ViewParts) (pid offset into len : ℕ) (a : Area) (k : Option ℕ) → pid < v.nprocs → area_at v.table k pid ≡ Some a → offset + len ≤ a.len → into + len ≤ length v.memory → IsAsked v record { owner = pid; start = a.start + offset; len = len; into = into }
asked_at v pid offset into len a None lt e h own = cc
asked_at v pid offset into len a (Some k) lt e h own =
    record { owner_below = lt; slot = k; covered = LiesIn-at (area_at v.table (Some k) pid) a offset len e h; own = own }

pub AreAsked-push : (v : ViewParts) (gets : List Get) (pid area offset into len : ℕ) (a : Area) → AreAsked v gets → pid < v.nprocs → target_area v pid area ≡ Some a → offset + len ≤ a.len → into + len ≤ length v.memory → AreAsked v (gets ++ record { owner = pid; start = a.start + offset; len = len; into = into } ∷ [])
AreAsked-push v gets pid area offset into len a old lt e h own =
    record { each = All-push (IsAsked v) gets _ old.each (asked_at v pid offset into len a (newest v.table v.pid area) lt e h own) }
