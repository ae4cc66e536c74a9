-- What every request that passed its checks keeps: it lies inside the areas of the view's table and inside the memories' limits (this profile).
use Rattle.std.specs.Prelude.{ℕ, List, Option, None, Some, ◌≤◌, ◌<◌, ◌+◌, ◌≡◌, length, All}
use Rattle.bsp_model.specs.Limits.{most_payload_words}
use Rattle.bsp_model.specs.declared.request.Put.{Put}
use Rattle.bsp_model.specs.declared.request.Get.{Get}
use Rattle.bsp_model.specs.declared.request.Send.{Send}
use Rattle.bsp_table.specs.declared.area.Area.{Area}
use Rattle.bsp_table.specs.Table.{area_at}
use Rattle.bsp_table.specs.NextTable.{AreSlots}
use Rattle.bsp_step.specs.ViewParts.{ViewParts}

-- words inside an area
abbrev pub LiesIn : Option Area → ℕ → ℕ → Type 0
LiesIn None start len = ⊥
LiesIn (Some a) start len = (a.start ≤ start) × (start + len ≤ a.start + a.len)

-- a put to words inside an area of the table
pub record IsPlaced (v : ViewParts) (p : Put) : Type 0 where
  pub target_below : p.target < v.nprocs
  pub slot : ℕ
  pub covered : LiesIn (area_at v.table (Some slot) p.target) p.start (length p.words)

-- a get of words inside an area of the table, into the own memory
pub record IsAsked (v : ViewParts) (g : Get) : Type 0 where
  pub owner_below : g.owner < v.nprocs
  pub slot : ℕ
  pub covered : LiesIn (area_at v.table (Some slot) g.owner) g.start g.len
  pub own : g.into + g.len ≤ length v.memory

-- a message to a process, with a tag of the size in force
pub record IsAddressed (v : ViewParts) (m : Send) : Type 0 where
  pub target_below : m.target < v.nprocs
  pub tag : length m.tag ≡ v.tag_size
  pub words : length m.words ≤ most_payload_words

pub record ArePlaced (v : ViewParts) (puts : List Put) : Type 0 where
  pub each : All (IsPlaced v) puts

pub record AreAsked (v : ViewParts) (gets : List Get) : Type 0 where
  pub each : All (IsAsked v) gets

pub record AreAddressed (v : ViewParts) (sends : List Send) : Type 0 where
  pub each : All (IsAddressed v) sends

-- pushed areas inside the own memory
pub record ArePushed (v : ViewParts) (pushes : List Area) : Type 0 where
  pub each : All (λ a. a.start + a.len ≤ length v.memory) pushes

-- what a process issued in its turn
pub record AreIssued (v : ViewParts) (puts : List Put) (gets : List Get) (sends : List Send) (pops : List ℕ) (pushes : List Area) : Type 0 where
  pub placed : ArePlaced v puts
  pub asked : AreAsked v gets
  pub addressed : AreAddressed v sends
  pub popped : AreSlots v.table pops
  pub pushed : ArePushed v pushes
